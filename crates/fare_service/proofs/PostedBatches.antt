-- Batches, posted one after the other.
use Rattle.std.proofs.Common.{refl, sym, ◌∙◌, ap, subst, append_assoc, append-nil, arith}
use Rattle.fare_service.proofs.BatchLemmas.{Posts, Cuts, posts_more, posts_cut}
use Rattle.fare_service.proofs.{RunLemmas.cut_early, TapCounts.batches_taps}
use Rattle.fare_service.proofs.TapCounts.{posted_no_more, file_room}
use Rattle.fare_service.proofs.VisitLemmas.{taps_after}
use Rattle.fare_service.specs.Runs.{PostedRun, RunVisit, runs_below, runs_of, AreCut, entries_of}
use Rattle.fare_service.specs.{Runs.taps_posted, Shares.HasVisited}
use Rattle.fare_service.specs.{declared.service.working.Stop.Stop, inside.Runs.ArePostedOrCut}
use Rattle.histories.specs.{Entry.reply_of, Sums.Sums}
use Rattle.shared_books.specs.Passes.{PassView}
use Rattle.std.proofs.lemmas.List.{length-map, Sums.sum_by-append}
use Rattle.std.specs.Prelude.{ℕ, ◌≡◌, ◌+◌, ◌*◌, ◌^◌, ◌<◌, ◌≤◌, Bool, List, [], ◌∷◌}
use Rattle.std.specs.Prelude.{◌++◌, length, map, Result, Ok, Err, IfOk, is_ok, IsErr, Option}
use Rattle.tap_views.specs.Files.{IsFile, IsEndAfterBatches}
use Rattle.tap_views.specs.{Layout.Tap, declared.fault.LayoutFault.LayoutFault}

-- the runs of batches and of others after them
pub runs_of-append : (shards : ℕ) (xs ys : List (List Tap))
    → runs_of shards (xs ++ ys)
    ≡ runs_of shards xs ++ runs_of shards ys
runs_of-append shards [] ys = refl
runs_of-append shards (x ∷ xs) ys =
    ap (λ rs. runs_below shards shards x ++ rs) (runs_of-append shards xs ys)
    ∙ sym (append_assoc (runs_below shards shards x) (runs_of shards xs) (runs_of shards ys))

one_batch : (shards : ℕ) (batch : List Tap)
    → runs_of shards (batch ∷ []) ≡ runs_below shards shards batch
one_batch shards batch = append-nil (runs_below shards shards batch)

-- one batch more was posted
pub batches_more : (shards : ℕ) (p q r : List PassView) (s t u : Sums) (done : List (List Tap))
    (batch : List Tap)
    → Posts shards p q s t (runs_of shards done)
    → Posts shards q r t u (runs_below shards shards batch)
    → Posts shards p r s u (runs_of shards (done ++ batch ∷ []))
batches_more shards p q r s t u done batch before here =
    let P : List PostedRun → Type 0 = Posts shards p r s u in
    subst P (ap (λ rs. runs_of shards done ++ rs)
    (sym (one_batch shards batch))
    ∙ sym (runs_of-append shards done (batch ∷ [])))
    (posts_more shards p q r s t u (runs_of shards done)
    (runs_below shards shards batch) before here)

-- a batch was cut
pub batches_cut : (shards : ℕ) (p q r : List PassView) (s t u : Sums) (done more : List (List Tap))
    (batch : List Tap)
    → Posts shards p q s t (runs_of shards done)
    → Cuts shards q r t u (runs_below shards shards batch)
    → Cuts shards p r s u (runs_of shards ((done ++ batch ∷ []) ++ more))
batches_cut shards p q r s t u done more batch before here =
    let (visits, made, cut) =
    posts_cut shards p q r s t u (runs_of shards done)
    (runs_below shards shards batch) before here in
    let P : List PostedRun → Type 0 = λ runs. AreCut runs visits in
    let first = subst P
    (ap (λ rs. runs_of shards done ++ rs) (sym (one_batch shards batch))
    ∙ sym (runs_of-append shards done (batch ∷ []))) cut in (
      visits,
      made,
      subst P (sym (runs_of-append shards (done ++ batch ∷ []) more))
          (cut_early (runs_of shards (done ++ batch ∷ []))
          (runs_of shards more) visits first),
    )

-- how far the totals count
pub counted_taps : (shards : ℕ) (p q : List PassView) (s t : Sums) (more : List RunVisit)
    → HasVisited shards p q s t more → t.taps ≡ s.taps + taps_posted more
counted_taps shards p q s t more made =
    ap (λ x. x.taps) made.counted ∙ taps_after s (map reply_of (entries_of more))
    ∙ ap (λ n. s.taps + n) (length-map (entries_of more) reply_of)

-- the batches of a file have no more taps than it has room for, nor do the first of them
pub done_room : (file : List ℕ) (done more : List (List Tap)) (rest : List ℕ)
    → IsFile file (done ++ more) rest → 24 * batches_taps done ≤ length file
done_room file done more rest is =
    omega (
      arith,
      file_room file (done ++ more) rest is,
      sum_by-append (λ (b : List Tap). length b) done more,
    )

pub posted_few : (shards : ℕ) (p q : List PassView) (s t : Sums) (more : List RunVisit)
    (file : List ℕ) (batches : List (List Tap)) (whole : Bool)
    → HasVisited shards p q s t more → ArePostedOrCut (runs_of shards batches) whole more
    → 24 * batches_taps batches ≤ length file → length file < 2 ^ 64 → t.taps ≤ s.taps + 2 ^ 60
posted_few shards p q s t more file batches whole made posted room small =
    omega (
      arith,
      counted_taps shards p q s t more made,
      posted_no_more shards batches more whole made.entered posted,
      room,
      small,
    )

-- an upload that was cut, shown by an answer that is an error
pub cut_upload : (r : Result (Option (ℕ × LayoutFault)) Stop) (shards : ℕ) (file : List ℕ)
    (p q : List PassView) (s t : Sums) (batches : List (List Tap)) (rest : List ℕ)
    → IsErr r → IsFile file batches rest → Cuts shards p q s t (runs_of shards batches)
    → (batches : List (List Tap)) × (rest : List ℕ) × IsFile file batches rest
    × ((more : List RunVisit) × HasVisited shards p q s t more
    × ArePostedOrCut (runs_of shards batches) (is_ok r) more)
    × IfOk r (IsEndAfterBatches file rest)
cut_upload (Ok x) shards file p q s t batches rest err is cut = absurd (cc)
cut_upload (Err e) shards file p q s t batches rest err is cut = (batches, rest, is, cut, tt)
