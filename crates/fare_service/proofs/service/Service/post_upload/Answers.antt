use Rattle.std.proofs.Common.{ℕ, Option, None, Some, sym, refl, subst, inl}
use Rattle.fare_service.proofs.UploadLemmas.{Worked_as, upload_whole, upload_cut}
use Rattle.fare_service.specs.Plain.{WasNotCut}
use Rattle.histories.specs.Sums.{sums_of}
use Rattle.tap_views.specs.UploadEnds.{end_by}
use Rattle.tap_views.specs.declared.{fault.LayoutFault.LayoutFault, upload_end.UploadEnd.UploadEnd}
use Rattle.fare_service.proofs.service.Service.post_upload.Goals as goal

pub returns-in-Ok-clause-worked : goal.returns-in-Ok-clause-worked
returns-in-Ok-clause-worked g c =
    let P : UploadEnd → Type 0 =
    λ end. Worked_as c.args.self.now c.args.upload c.args.file.now end
    c.args.posting.now.passes.items
    c.post_batches-posted.new.posting.passes.items (sums_of c.args.posting.now.totals)
    (sums_of c.post_batches-posted.new.posting.totals) in
    subst P (sym c.by_fault.ensures)
    (upload_whole c.args.self.now c.args.upload _ c.in-Ok.found c.args.file.now
    c.args.posting.now.passes.items c.post_batches-posted.new.posting.passes.items
    (sums_of c.args.posting.now.totals) (sums_of c.post_batches-posted.new.posting.totals)
    c.post_batches-posted.result c.requires.upload c.requires.provided
    c.post_batches-posted.ensures.made
    c.in-Ok.is refl)

pub returns-in-Err-clause-worked : goal.returns-in-Err-clause-worked
returns-in-Err-clause-worked g c =
    upload_cut c.args.self.now c.args.upload _ c.in-Err.stop c.args.file.now
    c.args.posting.now.passes.items c.post_batches-posted.new.posting.passes.items
    (sums_of c.args.posting.now.totals) (sums_of c.post_batches-posted.new.posting.totals)
    c.post_batches-posted.result c.requires.upload c.requires.provided
    c.post_batches-posted.ensures.made
    c.in-Err.is refl

whole_by : (taps : ℕ) (found : Option (ℕ × LayoutFault)) → WasNotCut (end_by taps found)
whole_by taps None = tt
whole_by taps (Some (offset, fault)) = tt

pub returns-in-Ok-clause-full : goal.returns-in-Ok-clause-full
returns-in-Ok-clause-full g c = λ h. c.post_batches-posted.ensures.full (inl h)

pub returns-in-Ok-clause-goes_on : goal.returns-in-Ok-clause-goes_on
returns-in-Ok-clause-goes_on g c =
    λ goes. inl (subst WasNotCut (sym c.by_fault.ensures) (whole_by _ c.in-Ok.found))

pub returns-in-Err-clause-full : goal.returns-in-Err-clause-full
returns-in-Err-clause-full g c = λ h. c.post_batches-posted.ensures.full (inl h)
