use Rattle.std.proofs.Common.{◌∙◌, ◌++◌, ◌∷◌, [], List, ap, append-nil, append_assoc, arith, inl}
use Rattle.std.proofs.Common.{refl}
use Rattle.recorded_lines.specs.Texts.{calls_of}
use Rattle.std.proofs.lemmas.Result.{err_from_is_err_and}
use Rattle.tool_tasks.proofs.{Corrected.corrected, Streaming.unopened}
use Rattle.tool_words.specs.Tasks.{corrections_of}
use Rattle.world.specs.Run.{Calls}
use Rattle.tool_tasks.proofs.corrections.correct.Goals as goal

pub returns-in_err-old : goal.returns-in_err-old
returns-in_err-old g c =
    let e = err_from_is_err_and c.from_residual.result c.from_residual.ensures.1 in
    let request = corrections_of c.args.words.now in
    let words = request.old ∷ request.new ∷ [] in
    let (calls, all, is) = c.in_err-old.ensures.stopped words (0, omega arith, refl) in
    let (can, left) = unopened _ words calls [] c.in_err-old.field-0.0.0 _ is in
    rw (e.1, e.2) (calls ++ [], rw append-nil all, ([], inl refl, can, left))

pub returns-in-Err : goal.returns-in-Err
returns-in-Err g c =
    let request = corrections_of c.args.words.now in
    let words = request.old ∷ request.new ∷ [] in
    let before = g.F.Streams.readings c.args.files.now in
    let (calls, all, is) = c.in-Err.ensures.stopped words (1, omega arith, refl) in
    let one = calls_of c.in_ok-old.old in
    let (can, left) = unopened _ words calls (one ∷ []) c.in-Err.halt.0 _ is in (
      calls ++ one ∷ [],
      c.close.ensures ∙ ap (λ (l : List Calls). l ++ one ∷ []) (all
          ∙ ap (λ (l : List Calls). l ++ calls) c.in_ok-old.ensures.unchanged)
          ∙ append_assoc before calls (one ∷ []),
      ([], inl refl, can, left),
    )

pub returns : goal.returns
returns g c =
    let request = corrections_of c.args.words.now in
    let (old, new, all, old_name, new_name, written) = c.write_closed-written.ensures in (
      old ∷ new ∷ [],
      all ∙ ap (λ (l : List Calls). l ++ old ∷ new ∷ [])
          (c.in-Ok.ensures.unchanged ∙ c.in_ok-old.ensures.unchanged),
      corrected request (old ∷ new ∷ []) old new (record {
        all = refl;
        old_name = old_name ∙ c.in_ok-old.ensures.named;
        new_name = new_name ∙ c.in-Ok.ensures.named;
      }) _ _ c.write_closed-written.result c.removed_line.result written c.removed_line.ensures,
    )
