-- An upload that was posted: how it ended.
use Rattle.std.proofs.Common.{subst, arith}
use Rattle.fare_service.proofs.PostedBatches.{counted_taps}
use Rattle.fare_service.specs.Lending.{origin_at}
use Rattle.fare_service.specs.Runs.{RunVisit, runs_of, ArePostedWhole, taps_posted}
use Rattle.fare_service.specs.{ServiceView.ServiceView, ServiceView.shards_of, Shares.HasVisited}
use Rattle.fare_service.specs.{Shares.IsWorked, Shares.IsEndOf, declared.service.working.Stop.Stop}
use Rattle.fare_service.specs.inside.{Runs.ArePostedOrCut, Shares.worked}
use Rattle.histories.specs.Sums.{Sums}
use Rattle.shared_books.specs.Passes.{PassView}
use Rattle.std.specs.Prelude.{ℕ, ◌≡◌, ◌-◌, ◌<◌, List, Result, Ok, Err, IfOk, is_ok, Option, Some}
use Rattle.std.specs.Prelude.{None, length}
use Rattle.tap_views.specs.Files.{IsFile, IsEndAfterBatches}
use Rattle.tap_views.specs.{Layout.Tap, UploadEnds.end_by, declared.fault.LayoutFault.LayoutFault}
use Rattle.tap_views.specs.declared.upload_end.UploadEnd.{UploadEnd, TheVariants.Cut}
use Rattle.world.specs.Origins.{IsFrom}

-- what is known of an upload whose batches were posted
abbrev pub Ended : ℕ → List ℕ → List PassView → List PassView → Sums → Sums
    → Result (Option (ℕ × LayoutFault)) Stop → Type 0
Ended shards file p q s t r =
    (batches : List (List Tap)) × (rest : List ℕ) × IsFile file batches rest
    × ((more : List RunVisit) × HasVisited shards p q s t more
    × ArePostedOrCut (runs_of shards batches) (is_ok r) more)
    × IfOk r (IsEndAfterBatches file rest)

-- the upload was worked on, and ended so
abbrev pub Worked_as : ServiceView → ℕ → List ℕ → UploadEnd → List PassView → List PassView
    → Sums → Sums → Type 0
Worked_as service upload file end p q s t =
    (visits : List RunVisit) × HasVisited (shards_of service) p q s t visits
    × IsWorked service (worked upload file end visits)

posted_taps_are : (shards : ℕ) (p q : List PassView) (s t : Sums) (more : List RunVisit) (taps : ℕ)
    → HasVisited shards p q s t more → taps ≡ t.taps - s.taps → taps ≡ taps_posted more
posted_taps_are shards p q s t more taps made e =
    omega (arith, e, counted_taps shards p q s t more made)

by_end : (service : ServiceView) (upload : ℕ) (end : UploadEnd) (file : List ℕ)
    (batches : List (List Tap)) (rest : List ℕ) (visits : List RunVisit) (p q : List PassView)
    (s t : Sums)
    → upload < length service.uploads → IsFrom (origin_at service.uploads upload) file
    → IsFile file batches rest → HasVisited (shards_of service) p q s t visits
    → IsEndOf (shards_of service) file batches rest visits end
    → Worked_as service upload file end p q s t
by_end service upload end file batches rest visits p q s t within provided is made ended = (
  visits,
  made,
  record {
    within = within;
    from = provided;
    batches = batches;
    rest = rest;
    is_file = is;
    ended = ended;
    entered = made.entered;
  },
)

pub upload_whole : (service : ServiceView) (upload taps : ℕ) (found : Option (ℕ × LayoutFault))
    (file : List ℕ) (p q : List PassView) (s t : Sums) (r : Result (Option (ℕ × LayoutFault)) Stop)
    → upload < length service.uploads → IsFrom (origin_at service.uploads upload) file
    → Ended (shards_of service) file p q s t r → r ≡ Ok found → taps ≡ t.taps - s.taps
    → Worked_as service upload file (end_by taps found) p q s t
upload_whole service upload taps found file p q s t r within provided ended e counted =
    let P : Result (Option (ℕ × LayoutFault)) Stop → Type 0 =
    Ended (shards_of service) file p q s t in
    let (batches, rest, is, (more, made, posted), fault) = subst P e ended in
    by_end service upload (end_by taps found) file batches rest more p q s t within provided is made
    (ended_so batches rest more made posted found fault)
  where
    ended_so : (batches : List (List Tap)) (rest : List ℕ) (more : List RunVisit)
        → HasVisited (shards_of service) p q s t more
        → ArePostedWhole (runs_of (shards_of service) batches) more
        → (found : Option (ℕ × LayoutFault)) → IsEndAfterBatches file rest found
        → IsEndOf (shards_of service) file batches rest more (end_by taps found)
    ended_so batches rest more made posted None clean =
        (clean, posted, posted_taps_are (shards_of service) p q s t more taps made counted)
    ended_so batches rest more made posted (Some (offset, fault)) refused =
        (refused, posted, posted_taps_are (shards_of service) p q s t more taps made counted)

pub upload_cut : (service : ServiceView) (upload taps : ℕ) (stop : Stop) (file : List ℕ)
    (p q : List PassView) (s t : Sums) (r : Result (Option (ℕ × LayoutFault)) Stop)
    → upload < length service.uploads → IsFrom (origin_at service.uploads upload) file
    → Ended (shards_of service) file p q s t r → r ≡ Err stop → taps ≡ t.taps - s.taps
    → Worked_as service upload file (Cut taps) p q s t
upload_cut service upload taps stop file p q s t r within provided ended e counted =
    let P : Result (Option (ℕ × LayoutFault)) Stop → Type 0 =
    Ended (shards_of service) file p q s t in
    let (batches, rest, is, (more, made, posted), any) = subst P e ended in
    by_end service upload (Cut taps) file batches rest more p q s t within provided is made
    (posted, posted_taps_are (shards_of service) p q s t more taps made counted)
