use Rattle.std.proofs.Common.{◌∙◌, ◌++◌, ◌∷◌, [], List, ap, append_assoc}
use Rattle.ledger_changes.specs.Given.{new_calls, old_calls}
use Rattle.recorded_lines.specs.{Texts.calls_of, declared.text.Lines.Lines}
use Rattle.world.specs.Run.{Calls}
use Rattle.tool_tasks.proofs.corrections.write_closed.Goals as goal

pub returns : goal.returns
returns g c =
    let done = c.write_all-written.new.corrections in
    let read = g.F.Streams.readings in
    let mid = read c.args.files.now in (
      old_calls done,
      new_calls done,
      c.close-2.ensures ∙ ap (λ (l : List Calls). l ++ calls_of c.into_texts-old.result.1 ∷ []) c.close.ensures
          ∙ append_assoc mid (calls_of c.into_texts-old.result.0 ∷ [])
          (calls_of c.into_texts-old.result.1 ∷ [])
          ∙ ap (λ (t : Lines × Lines). mid ++ calls_of t.0 ∷ calls_of t.1 ∷ []) c.into_texts-old.ensures,
      c.write_all-written.ensures.follow.0.name
          ∙ ap (λ (l : Lines). (calls_of l).reading.name) c.new-corrections.ensures.old,
      c.write_all-written.ensures.follow.1.name
          ∙ ap (λ (l : Lines). (calls_of l).reading.name) c.new-corrections.ensures.new,
      c.write_all-written.ensures.written,
    )
