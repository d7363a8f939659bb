use Rattle.std.proofs.Common.{◌≡◌, ◌+◌, ◌∷◌, ◌++◌, List, [], ap, sym, subst, arith, ◌∙◌}
use Rattle.settlement.proofs.ReadUploads.{none_taken, run_taken, upload_taken}
use Rattle.settlement.specs.inside.Taken.{AreInRuns, AreTaken}
use Rattle.tap_parts.specs.Parts.{taps_of_uploads}
use Rattle.tap_views.specs.{Layout.Tap, declared.upload_end.UploadEnd.UploadEnd}
use Rattle.world.specs.Run.{Calls, nothing_yet}
use Rattle.settlement.proofs.reading.read_run.Goals as goal

pub loop-number-init : goal.loop-number-init
loop-number-init g c =
    let origin = g.U.Uploads.origin c.args.uploads.now in
    let start = c.args.start in
    let said : List Tap → Type 0 =
    λ taps. g.C.Choice.keeps c.args.choice.now taps c.in_ok-kept.kept in
    record {
      order = c.requires.order;
      run = subst (λ (es : List UploadEnd). AreTaken origin start start said es nothing_yet
          c.new-calls.result.run) (sym c.new-ends.ensures.items)
          (subst (λ (calls : Calls). AreTaken origin start start said [] nothing_yet calls.run)
          (sym c.new-calls.ensures)
          (none_taken origin start said nothing_yet c.in_ok-kept.ensures));
    }

pub read_upload-requires : goal.read_upload-requires
read_upload-requires g c =
    let run = c.loop-number.invariant.run in (taps_of_uploads run.taps, run.holds)

pub loop-number-preserved : goal.loop-number-preserved
loop-number-preserved g c =
    let origin = g.U.Uploads.origin c.args.uploads.now in
    let keeps = g.C.Choice.keeps c.args.choice.now in
    let new = c.read_upload.new.kept in
    record {
      order = omega (arith, c.loop-number-test.true);
      run = subst (λ (es : List UploadEnd). AreTaken origin c.args.start (c.loop-number.number + 1)
          (λ taps. keeps taps new) es nothing_yet c.read_upload.new.calls.run)
          (sym c.in_ok-push.ensures.items)
          (upload_taken keeps origin c.args.start c.loop-number.number c.loop-number.kept new
          c.loop-number.ends.items c.in_ok-upload_end.upload_end nothing_yet
          c.loop-number.calls.run c.read_upload.new.calls.run c.loop-number.invariant.run
          (c.in_ok-upload_end.ensures (origin c.loop-number.number) c.in_ok-opened.ensures));
    }

pub returns : goal.returns
returns g c =
    let origin = g.U.Uploads.origin c.args.uploads.now in
    let keeps = g.C.Choice.keeps c.args.choice.now in
    let kept = c.loop-number.kept in
    let lists = c.in_ok-push-2.ensures.items ∙ ap (λ ls. ls ++ kept ∷ []) c.new-lists.ensures.items in
    let run = run_taken keeps origin c.args.start c.loop-number.number kept c.loop-number.ends.items
    nothing_yet c.loop-number.calls.run c.loop-number.invariant.run in
    let done : c.loop-number.number ≡ c.args.end =
    omega (arith, c.loop-number-test.false, c.loop-number.invariant.order) in
    subst (λ ls. AreTaken origin c.args.start c.args.end (AreInRuns keeps ls)
    c.loop-number.ends.items nothing_yet c.loop-number.calls.run) (sym lists)
    (subst (λ n. AreTaken origin c.args.start n (AreInRuns keeps (kept ∷ []))
    c.loop-number.ends.items nothing_yet c.loop-number.calls.run) done run)
