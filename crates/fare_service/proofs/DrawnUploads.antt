-- The uploads that were drawn: each whose end is told, once.
use Rattle.std.proofs.Common.{◌∙◌, inl, inr, arith}
use Rattle.fare_service.proofs.GatherLemmas.{drawn_times, not_drawn}
use Rattle.fare_service.specs.Headline.{Headline, drawn_by}
use Rattle.fare_service.specs.{Outcomes.OutcomeView, Shares.Worked, Shares.all_works}
use Rattle.shared_books.specs.Drawing.{times}
use Rattle.std.proofs.lemmas.Bool.{cases_lt}
use Rattle.std.specs.Prelude.{ℕ, ◌≡◌, ◌≢◌, ◌⊎◌, ◌<◌, ◌≤◌, List, slice_get, Some}
use Rattle.tap_views.specs.declared.upload_end.UploadEnd.{UploadEnd, TheVariants.Undrawn}
use Rattle.tariffs.specs.Fares.{Fares}

pub each_drawn_once : (fares : Fares) (shards : ℕ) (files : List (List ℕ))
    (works : List (List Worked))
    (outcome : OutcomeView) → Headline fares shards files works outcome
    → (upload : ℕ) (end : UploadEnd) → slice_get outcome.ends upload ≡ Some end → end ≢ Undrawn
    → times upload (drawn_by works) ≡ 1
each_drawn_once fares shards files works outcome is upload end at reported =
    by_times (cases_lt 0 (drawn_times upload (all_works works)))
  where
    by_times : (0 < drawn_times upload (all_works works))
        ⊎ (drawn_times upload (all_works works) ≤ 0)
        → drawn_times upload (all_works works) ≡ 1
    by_times (inl some) = omega (arith, some, is.drawn_once upload)
    by_times (inr none) =
        absurd (reported (is.ended upload end at
        ∙ not_drawn (all_works works) upload (omega (arith, none))))
