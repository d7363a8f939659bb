use Rattle.std.proofs.Common.{◌≡◌, ◌∷◌, [], List, arith, subst, sym, ℕ}
use Rattle.frame.proofs.Outcomes.{halted_by}
use Rattle.frame.specs.{Given.load_of, Names.file_named, Outsides.Stops}
use Rattle.std.proofs.lemmas.Result.{err_from_is_err_and}
use Rattle.tool_tasks.proofs.Preparing.{carried, halted_early}
use Rattle.tool_tasks.specs.inside.Prepared.{whole_of}
use Rattle.world.specs.Run.{with_load}
use Rattle.tool_tasks.proofs.one_file.give_of_file.Goals as goal

pub returns-in_err-bytes : goal.returns-in_err-bytes
returns-in_err-bytes g c =
    let e = err_from_is_err_and c.from_residual.result c.from_residual.ensures.1 in
    let task = c.args.task.now in
    let words = g.T.OneFile.word task ∷ g.T.OneFile.made task in
    rw (e.1, e.2) (halted_early (g.T.OneFile.right task) (g.T.OneFile.wrong task) words
    (g.W.Inputs.run c.args.world.now) _ _
    (c.in_err-bytes.ensures.stopped words (0, omega arith, c.requires)))

pub returns-in_err-prepared : goal.returns-in_err-prepared
returns-in_err-prepared g c =
    let e = err_from_is_err_and c.from_residual-in_err-prepared.result
    c.from_residual-in_err-prepared.ensures.1 in
    let task = c.args.task.now in let word = g.T.OneFile.word task in
    let words = word ∷ g.T.OneFile.made task in
    let old = g.W.Inputs.run c.args.world.now in
    let bytes = c.in_ok-bytes.bytes.items in
    let loaded = subst (λ (w : List ℕ). g.W.Inputs.run c.load_sized.new.files
    ≡ with_load old (file_named w) bytes) (sym c.requires) c.in_ok-bytes.ensures.loaded in
    let why = c.in_err-prepared.field-0.0.0 in
    rw (e.1, e.2) (halted_by (g.T.OneFile.right task) (g.T.OneFile.wrong task) words old _ _
    (load_of word bytes ∷ []) why loaded (subst (λ (t : List ℕ).
    Stops (g.T.OneFile.wrong task (load_of word t ∷ [])) why) c.deref.ensures.value
    c.in_err-prepared.ensures.stopped words _))

pub returns : goal.returns
returns g c =
    let task = c.args.task.now in let word = g.T.OneFile.word task in
    let words = word ∷ g.T.OneFile.made task in
    let old = g.W.Inputs.run c.args.world.now in
    let bytes = c.in_ok-bytes.bytes.items in
    let prepared = c.in_ok-prepared.prepared in
    let loaded = subst (λ (w : List ℕ). g.W.Inputs.run c.load_sized.new.files
    ≡ with_load old (file_named w) bytes) (sym c.requires) c.in_ok-bytes.ensures.loaded in
    carried (g.T.OneFile.right task) (g.T.OneFile.wrong task) words old _ _ prepared.status
    c.carry_out.result
    (c.carry_out.ensures words old (load_of word bytes ∷ []) loaded c.in_ok-prepared.ensures.named)
    (subst (λ (t : List ℕ). g.T.OneFile.right task (whole_of (load_of word t ∷ []) prepared)
    prepared.status) c.deref.ensures.value c.in_ok-prepared.ensures.whole)
