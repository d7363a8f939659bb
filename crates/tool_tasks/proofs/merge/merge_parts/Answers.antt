use Rattle.std.proofs.Common.{◌++◌, ◌∙◌, [], List, ap, append_assoc, arith, drop, inl, length, map}
use Rattle.std.proofs.Common.{refl}
use Rattle.part_texts.proofs.Parts.{follow_length}
use Rattle.recorded_lines.specs.{Texts.calls_of, declared.text.Lines.Lines}
use Rattle.std.proofs.lemmas.List.{take_at}
use Rattle.tool_tasks.proofs.{PartsRead.merged, PartsRead.names_kept, Streaming.unopened}
use Rattle.tool_tasks.specs.inside.Merge.{names_of}
use Rattle.world.specs.Run.{Calls}
use Rattle.tool_tasks.proofs.merge.merge_parts.Goals as goal

pub returns-in-Ok : goal.returns-in-Ok
returns-in-Ok g c =
    let words = map (λ w. w.now) c.args.words.now in
    let mid = g.F.Streams.readings c.open_all.new.files in
    let opened = c.deref_mut.result.now in
    let now = c.merge-merged.new.parts in
    let calls = map calls_of now in (
      calls,
      c.close_all.ensures ∙ ap (λ (l : List Lines). mid ++ map calls_of l) (take_at now
          (drop (length now) c.open_all.new.parts.items) c.open_all.new.parts.len (omega (
            arith,
            follow_length opened now c.merge-merged.ensures.follow,
            ap length c.deref_mut.ensures.value,
            c.open_all.new.parts.ok.0,
          ))) ∙ ap (λ (l : List Calls). l ++ calls) c.in-Ok.ensures.unchanged,
      merged words calls (names_kept opened now c.merge-merged.ensures.follow
          ∙ ap (λ (l : List Lines). names_of (map calls_of l)) c.deref_mut.ensures.value
          ∙ c.in-Ok.ensures.named) _ _ c.merge-merged.result c.noted.result
          c.merge-merged.ensures.merges c.noted.ensures,
    )

pub returns-in-Err : goal.returns-in-Err
returns-in-Err g c =
    let words = map (λ w. w.now) c.args.words.now in
    let (calls, all, is) = c.in-Err.ensures.stopped in
    let more = map calls_of c.open_all.new.parts.items in
    let (can, left) = unopened _ words calls more c.in-Err.halt.0 _ is in (
      calls ++ more,
      c.close_all-in-Err.ensures ∙ ap (λ (l : List Calls). l ++ more) all
          ∙ append_assoc (g.F.Streams.readings c.args.files.now) calls more,
      ([], inl refl, can, left),
    )
