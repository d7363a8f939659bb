use Rattle.std.proofs.Common.{◌∙◌, ◌++◌, ◌∷◌, [], Bor, List, ap, get_or, subst, ℕ}
use Rattle.frame.specs.{Given.load_of, Names.file_named, Outsides.Leaves}
use Rattle.std.proofs.lemmas.Result.{err_from_is_err_and}
use Rattle.tool_tasks.proofs.{Loading.word_contained, Making.loads_next}
use Rattle.world.proofs.Laws.{more_loads}
use Rattle.world.specs.Run.{Run, with_load}
use Rattle.tool_tasks.proofs.loads.load_all.Goals as goal

pub returns-in_err-text-clause-stopped : goal.returns-in_err-text-clause-stopped
returns-in_err-text-clause-stopped g c = λ names all.
    let e = err_from_is_err_and c.from_residual.result c.from_residual.ensures.1 in
    rw (e.1, e.2) (
      c.loop-number.invariant.loads,
      subst (λ (r : Run). Leaves names c.in_err-text.field-0.0.0 r
          (g.I.Inputs.run c.load_one.new.files)) c.loop-number.invariant.all
          (c.in_err-text.ensures.stopped names (all _
          (word_contained c.args.words.now c.loop-number.number _ c.loop-number-test.true))),
    )

pub returns-in_err-push-clause-stopped : goal.returns-in_err-push-clause-stopped
returns-in_err-push-clause-stopped g c = λ names all.
    let e = err_from_is_err_and c.from_residual-in_err-push.result
    c.from_residual-in_err-push.ensures.1 in
    let no_word : Bor (List ℕ) = record { ref_ptr = (0, 0); now = [] } in
    let word = (get_or c.args.words.now c.loop-number.number no_word).now in
    let loaded = c.loop-number.invariant in
    let one = load_of word c.in_ok-text.text.items ∷ [] in
    rw (e.1, e.2) (
      loaded.loads ++ one,
      c.in_ok-text.ensures.loaded
          ∙ ap (λ (r : Run). with_load r (file_named word) c.in_ok-text.text.items) loaded.all
          ∙ more_loads (g.I.Inputs.run c.args.files.now) loaded.loads one,
    )
