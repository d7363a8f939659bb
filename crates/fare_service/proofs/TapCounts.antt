-- How many taps visits post: no more than the batches have, which their file has room for.
use Rattle.std.proofs.Common.{ap, arith, length-append}
use Rattle.fare_service.proofs.OrderLemmas.{reordered}
use Rattle.fare_service.proofs.OwnVisits.{cut_taps_are, posted_taps_are, visits_length}
use Rattle.fare_service.specs.{Placing.in_posting_order, Runs.RunVisit, Runs.IsEntered, Runs.runs_of}
use Rattle.fare_service.specs.{Runs.taps_posted, inside.Runs.ArePostedOrCut}
use Rattle.std.proofs.lemmas.List.{Concat.length-flat_map, Sums.sum_by-cons}
use Rattle.std.specs.Prelude.{ℕ, zero, suc, ◌+◌, ◌*◌, ◌≤◌, ◌≡◌, Bool, true, false, List, [], ◌∷◌}
use Rattle.std.specs.Prelude.{length, sum_by, All}
use Rattle.tap_views.proofs.ParseLemmas.{batch_room}
use Rattle.tap_views.specs.{Files.IsFile, Layout.Tap}

abbrev pub batches_taps : List (List Tap) → ℕ
batches_taps batches = sum_by (λ b. length b) batches

-- the posting order has no more taps than the batches
order_few : (shards : ℕ) (batches : List (List Tap))
    → length (in_posting_order shards batches) ≤ batches_taps batches
order_few zero [] = omega arith
order_few zero (batch ∷ batches) =
    omega (arith, order_few zero batches, sum_by-cons (λ (b : List Tap). length b) batch batches)
order_few (suc shards) batches =
    omega (
      arith,
      (reordered (suc shards) batches (omega arith)).number,
      length-flat_map (λ (b : List Tap). b) batches,
    )

-- visits post no more taps than the batches have
pub posted_no_more : (shards : ℕ) (batches : List (List Tap)) (visits : List RunVisit)
    (whole : Bool) → All (IsEntered shards) visits
    → ArePostedOrCut (runs_of shards batches) whole visits
    → taps_posted visits ≤ batches_taps batches
posted_no_more shards batches visits true entered posted =
    omega (
      arith,
      visits_length shards visits entered,
      ap length (posted_taps_are (runs_of shards batches) visits posted),
      order_few shards batches,
    )
posted_no_more shards batches visits false entered cut =
    omega (
      arith,
      visits_length shards visits entered,
      (cut_taps_are (runs_of shards batches) visits cut).fewer,
      order_few shards batches,
    )

-- a file has 24 bytes at least for each tap of its batches
pub file_room : (file : List ℕ) (batches : List (List Tap)) (rest : List ℕ)
    → IsFile file batches rest → 24 * batches_taps batches ≤ length file
file_room file [] rest is = omega arith
file_room file (batch ∷ batches) rest (front, back, is_batch, whole, is) =
    let first : 24 * length batch + 8 ≤ length front = batch_room front batch is_batch in
    let then : 24 * batches_taps batches ≤ length back = file_room back batches rest is in
    let all : batches_taps (batch ∷ batches) ≡ length batch + batches_taps batches =
    sum_by-cons (λ (b : List Tap). length b) batch batches in
    omega (arith, ap length whole, length-append front back)
