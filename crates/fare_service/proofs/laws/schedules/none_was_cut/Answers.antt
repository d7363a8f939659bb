use Rattle.std.proofs.Common.{All, List, refl, arith, sym, subst, take_all}
use Rattle.std.proofs.lemmas.List.Elements.{All-more}
use Rattle.std.proofs.lemmas.Option.{slice_get_within, get_or_from_slice_get}
use Rattle.tap_views.specs.declared.upload_end.UploadEnd.{UploadEnd}
use Rattle.fare_service.specs.Plain.{WasNotCut}
use Rattle.fare_service.proofs.laws.schedules.none_was_cut.Goals as goal

pub loop-upload-preserved : goal.loop-upload-preserved
loop-upload-preserved c =
    let ends = c.args.outcome.now.ends in
    let end = c.upload.result in
    let position = c.loop-upload.upload in
    let W : UploadEnd → Type 0 = λ e. WasNotCut e in
    All-more WasNotCut ends position end (slice_get_within ends position end c.upload.ensures)
    c.loop-upload.invariant
    (subst W (sym (get_or_from_slice_get ends position end end c.upload.ensures))
    (c.was_not_cut.ensures.0 c.if-not-was_not_cut.false))

pub returns : goal.returns
returns c =
    let A : List UploadEnd → Type 0 = All WasNotCut in
    let all = subst A
    (take_all c.loop-upload.upload c.args.outcome.now.ends
    (omega (arith, c.loop-upload-test.false, c.uploads-upload-end.ensures)))
    c.loop-upload.invariant in
    (λ yes. all, λ whole. refl)
