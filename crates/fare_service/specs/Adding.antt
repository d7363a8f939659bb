-- Totals that add up: over the books, over the workers and, of taps, over the uploads.
use Rattle.fare_service.specs.{Outcomes.OutcomeView, Runs.entries_of}
use Rattle.fare_service.specs.Shares.{Worked, all_visits}
use Rattle.histories.specs.Sums.{sums, add_all}
use Rattle.std.specs.Prelude.{◌≡◌, List, map, sum_by}
use Rattle.tap_views.specs.UploadEnds.{taps_of_end}

-- Each worker's totals are those of its replies. The totals are the sum of the workers', and of the
-- books', and their taps are as many as the uploads' ends say.
pub record AddUp (works : List (List Worked)) (outcome : OutcomeView) : Type 0 where
  pub each : outcome.workers ≡ map (λ done. sums (entries_of (all_visits done))) works
  pub workers : outcome.totals ≡ add_all outcome.workers
  pub books : outcome.totals ≡ add_all (map (λ book. sums book.entries) outcome.books)
  pub uploads : outcome.totals.taps ≡ sum_by taps_of_end outcome.ends
