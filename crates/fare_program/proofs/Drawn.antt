-- In a run that posts each upload whole each is drawn once.
use Rattle.std.proofs.Common.{◌≡◌, ◌≢◌, ◌<◌, ◌≤◌, ◌==◌, [], ◌∷◌, ℕ, zero, suc, List, true, false}
use Rattle.std.proofs.Common.{All, Some, arith, inl, inr, length, map, refl, ◌∙◌}
use Rattle.fare_service.proofs.{DrawnUploads.each_drawn_once, GatherLemmas.each_work}
use Rattle.fare_service.proofs.PlainLists.{count_other}
use Rattle.fare_service.specs.{Headline.HasRun, Headline.drawn_by, Outcomes.OutcomeView}
use Rattle.fare_service.specs.Shares.{IsWorkOf, Worked, all_works}
use Rattle.shared_books.specs.Drawing.{AllBelow, HasAll, times}
use Rattle.std.proofs.lemmas.Bool.Decides.{eqb_tells}
use Rattle.std.proofs.lemmas.List.Elements.{All-head, All-tail, All-weaker}
use Rattle.std.specs.Prelude.{◌⊎◌, slice_get}
use Rattle.tap_views.specs.{UploadEnds.are_posted, declared.upload_end.UploadEnd.UploadEnd}
use Rattle.tap_views.specs.declared.upload_end.UploadEnd.TheVariants.{Cut, Posted, Refused, Undrawn}
use Rattle.tariffs.specs.Fares.{Fares}

posted_at : (ends : List UploadEnd) (position : ℕ) → are_posted ends ≡ true → position < length ends
    → (taps : ℕ) × (slice_get ends position ≡ Some (Posted taps))
posted_at [] position posted few = absurd (omega (arith, few))
posted_at (Posted taps ∷ ends) zero posted few = (taps, refl)
posted_at (Posted taps ∷ ends) (suc position) posted few =
    posted_at ends position posted (omega (arith, few))
posted_at (Refused taps offset fault ∷ ends) position posted few = absurd (cc)
posted_at (Cut taps ∷ ends) position posted few = absurd (cc)
posted_at (Undrawn ∷ ends) position posted few = absurd (cc)

not_outside : (number : ℕ) (works : List Worked) (position : ℕ) → All (λ w. w.upload < number) works
    → number ≤ position → times position (map (λ w. w.upload) works) ≡ 0
not_outside number [] position each more = refl
not_outside number (w ∷ works) position each more =
    by_test (eqb_tells w.upload position)
    (not_outside number works position (All-tail (λ (x : Worked). x.upload < number) w works each)
    more)
  where
    here : w.upload < number
    here = All-head (λ (x : Worked). x.upload < number) w works each

    by_test : (((w.upload == position) ≡ true) × (w.upload ≡ position))
        ⊎ (((w.upload == position) ≡ false) × (w.upload ≢ position))
        → times position (map (λ x. x.upload) works) ≡ 0
        → times position (map (λ x. x.upload) (w ∷ works)) ≡ 0
    by_test (inl (is, same)) rest = absurd (omega (arith, here, same, more))
    by_test (inr (is, apart)) rest =
        count_other position w.upload (map (λ x. x.upload) works) is ∙ rest

pub each_once : (fares : Fares) (shards workers : ℕ) (files : List (List ℕ)) (outcome : OutcomeView)
    → (run : HasRun fares shards files workers outcome) → are_posted outcome.ends ≡ true
    → HasAll (length files) (drawn_by run.0) × AllBelow (length files) (drawn_by run.0)
each_once fares shards workers files outcome run posted = (
  (λ position within.
      let (taps, there) = posted_at outcome.ends position posted
      (omega (arith, within, run.2.uploads)) in
      each_drawn_once fares shards files run.0 outcome run.2 position (Posted taps) there
      (λ same. cc)),
  (λ position more.
      not_outside (length files) (all_works run.0) position
      (All-weaker (IsWorkOf shards files) (λ w. w.upload < length files) (λ w work. work.within)
      (all_works run.0)
      (each_work (record { table = fares; shards = shards; uploads = files }) run.0 run.2.worked))
      more),
)
