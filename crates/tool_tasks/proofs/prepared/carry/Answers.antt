use Rattle.std.proofs.Common.{◌∙◌, List, ap, refl, string_bytes, ℕ}
use Rattle.frame.proofs.Giving.{gave_flushed, part_note, stopped_at}
use Rattle.frame.proofs.Outcomes.{gave_loads, loaded_of, stopped_early, stopped_flush}
use Rattle.frame.specs.Given.{with_files, with_note}
use Rattle.std.proofs.lemmas.Result.{err_from_is_err_and}
use Rattle.tool_tasks.proofs.Preparing.{stopped_whole}
use Rattle.tool_tasks.specs.inside.Prepared.{partial_files, with_prepared}
use Rattle.world.specs.Run.{with_said}
use Rattle.tool_tasks.proofs.prepared.carry.Goals as goal

pub returns-in-Err : goal.returns-in-Err
returns-in-Err g c = λ words start loads was named partial.
    rw c.discard.ensures (stopped_whole words start _ loads c.args.prepared.now
    (partial_files g.W.File.Write.contents c.args.partial) _
    (c.in-Err.ensures.stopped words named start (loaded_of loads) (was ∙ gave_loads start loads)))

pub returns-in_err-finish_partial : goal.returns-in_err-finish_partial
returns-in_err-finish_partial g c = λ words start loads was named partial.
    let e = err_from_is_err_and c.from_residual.result c.from_residual.ensures.1 in
    rw (e.1, e.2) (stopped_whole words start _ loads c.args.prepared.now
    (partial_files g.W.File.Write.contents c.args.partial) _
    (stopped_at words start _ _ (with_prepared (loaded_of loads) c.args.prepared.now) _
    (c.in_default.ensures.given start (loaded_of loads) (was ∙ gave_loads start loads))
    (c.in_err-finish_partial.ensures.stopped words partial)))

pub returns-in_err-flush : goal.returns-in_err-flush
returns-in_err-flush g c = λ words start loads was named partial.
    let e = err_from_is_err_and c.from_residual-in_err-flush.result
    c.from_residual-in_err-flush.ensures.1 in
    let p = c.args.prepared.now in
    let given = with_prepared (loaded_of loads) p in
    let before = with_files given (partial_files g.W.File.Write.contents c.args.partial) in
    rw (e.1, e.2) (stopped_early words start _ before (λ g'. with_note g' (string_bytes p.note)) _
    (λ part g' is_part. part_note part g' (string_bytes p.note) is_part)
    (stopped_flush words start _ _ before _
    (c.in_ok-finish_partial.ensures.made start given
    (c.in_default.ensures.given start (loaded_of loads) (was ∙ gave_loads start loads)))
    c.in_err-flush.ensures.cut))

pub returns : goal.returns
returns g c = λ words start loads was named partial.
    let p = c.args.prepared.now in
    let given = with_prepared (loaded_of loads) p in (
      refl,
      gave_flushed _ _ _ start
          (with_files given (partial_files g.W.File.Write.contents c.args.partial))
          (string_bytes p.note) c.in_ok-flush.ensures.flushed
          (c.say.ensures ∙ ap (λ (n : List ℕ). with_said (g.W.Inputs.run c.flush.new.self) n)
          c.as_bytes.ensures.value)
          (c.in_ok-finish_partial.ensures.made start given
          (c.in_default.ensures.given start (loaded_of loads) (was ∙ gave_loads start loads))),
    )
