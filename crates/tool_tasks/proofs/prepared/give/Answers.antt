use Rattle.std.proofs.Common.{◌∙◌, List, ap, subst, ℕ}
use Rattle.frame.proofs.{Giving.part_files, Giving.stopped_at, Outcomes.stopped_early}
use Rattle.frame.specs.{Given.gave, Given.with_files, Given.with_text, Outsides.IsStoppedIn}
use Rattle.std.proofs.lemmas.Result.{err_from_is_err_and}
use Rattle.tool_tasks.proofs.Preparing.{stopped_first}
use Rattle.tool_tasks.specs.inside.Prepared.{files_in}
use Rattle.tool_tasks.proofs.prepared.give.Goals as goal

pub returns-in_err-make_new-clause-stopped : goal.returns-in_err-make_new-clause-stopped
returns-in_err-make_new-clause-stopped g c = λ words named.
    let e = err_from_is_err_and c.from_residual.result c.from_residual.ensures.1 in
    rw (e.1, e.2) (λ start given is. stopped_first words start _ _ given c.args.prepared.now _ is
    (c.in_err-make_new.ensures.stopped words named.first))

pub returns-in_err-write-clause-stopped : goal.returns-in_err-write-clause-stopped
returns-in_err-write-clause-stopped g c = λ words named.
    let p = c.args.prepared.now in
    let e = err_from_is_err_and c.from_residual-in_err-write.result
    c.from_residual-in_err-write.ensures.1 in
    rw (e.1, e.2) (λ start given is.
    let before = with_files given (files_in p.first) in
    stopped_early words start _ (with_text before p.text.items)
    (λ g'. with_files g' (files_in p.upload)) c.in_err-write.field-0.0
    (λ part g' is_part. part_files part g' (files_in p.upload) is_part)
    (subst (λ (t : List ℕ). IsStoppedIn words start (g.W.Inputs.run c.write.new.world)
    (with_text before t) c.in_err-write.field-0.0) c.deref.ensures.value
    (c.in_err-write.ensures.stopped words start before
    (c.in_ok-make_new.ensures.made start given is))))

pub returns-in_err-make_new-2-clause-stopped : goal.returns-in_err-make_new-2-clause-stopped
returns-in_err-make_new-2-clause-stopped g c = λ words named.
    let p = c.args.prepared.now in
    let e = err_from_is_err_and c.from_residual-in_err-make_new-2.result
    c.from_residual-in_err-make_new-2.ensures.1 in
    rw (e.1, e.2) (λ start given is.
    let before = with_files given (files_in p.first) in
    stopped_early words start _ (with_text before p.text.items)
    (λ g'. with_files g' (files_in p.upload)) _
    (λ part g' is_part. part_files part g' (files_in p.upload) is_part)
    (stopped_at words start _ _ (with_text before p.text.items) _
    (c.in_ok-write.ensures.written start before (c.in_ok-make_new.ensures.made start given is)
    ∙ ap (λ (t : List ℕ). gave start (with_text before t)) c.deref.ensures.value)
    (c.in_err-make_new-2.ensures.stopped words named.upload)))

pub returns-clause-given : goal.returns-clause-given
returns-clause-given g c = λ start given is.
    let p = c.args.prepared.now in
    let before = with_files given (files_in p.first) in
    c.in_ok-make_new-2.ensures.made start (with_text before p.text.items)
    (c.in_ok-write.ensures.written start before (c.in_ok-make_new.ensures.made start given is)
    ∙ ap (λ (t : List ℕ). gave start (with_text before t)) c.deref.ensures.value)
