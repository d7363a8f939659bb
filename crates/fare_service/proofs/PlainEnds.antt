-- The ends of uploads that were posted whole are those that their bytes call for.
use Rattle.std.proofs.Common.{refl, sym, ◌∙◌, ap, subst, arith}
use Rattle.fare_service.proofs.{GatheredWork.Given, GatheredWork.IsGathered}
use Rattle.fare_service.proofs.{OrderLemmas.reordered, PlacingLemmas.posted_reported}
use Rattle.fare_service.specs.{Outcomes.OutcomeView, Placing.WerePostedOf, Placing.posted_of}
use Rattle.fare_service.specs.{Plain.WasNotCut, Shares.Worked, Shares.all_works, Shares.file_at}
use Rattle.std.proofs.lemmas.Option.{get_or_from_slice_get, slice_get_within}
use Rattle.std.specs.List.{AllZip}
use Rattle.std.specs.Prelude.{ℕ, suc, ◌≡◌, ◌<◌, List, [], ◌∷◌, length, All, Some, None, slice_get}
use Rattle.tap_views.specs.{UploadEnds.IsPlainEnd, UploadEnds.ArePlainEnds}
use Rattle.tap_views.specs.declared.upload_end.UploadEnd.{UploadEnd}
use Rattle.tap_views.specs.declared.upload_end.UploadEnd.TheVariants.{Posted, Refused, Cut, Undrawn}

zip_at : {A B : Type 0} (R : A → B → Type 0) (xs : List A) (ys : List B) → length xs ≡ length ys
    → ((i : ℕ) (x : A) (y : B) → slice_get xs i ≡ Some x → slice_get ys i ≡ Some y → R x y)
    → AllZip R xs ys
zip_at R [] [] same each = tt
zip_at R [] (y ∷ ys) same each = absurd (omega (arith, same))
zip_at R (x ∷ xs) [] same each = absurd (omega (arith, same))
zip_at R (x ∷ xs) (y ∷ ys) same each = (
  each 0 x y refl refl,
  zip_at R xs ys (omega (arith, same)) (λ i a b at there. each (suc i) a b at there),
)

-- the ends of what was gathered
pub plain_ends : (given : Given) (works : List (List Worked)) (outcome : OutcomeView)
    → 0 < length outcome.books → IsGathered given works outcome → All WasNotCut outcome.ends
    → ArePlainEnds given.uploads outcome.ends
plain_ends given works outcome some gathered whole =
    zip_at IsPlainEnd given.uploads outcome.ends (sym gathered.uploads) of_one
  where
    by_end : (upload : ℕ) (end : UploadEnd)
        → WerePostedOf given.shards (file_at given.uploads upload) end
        (posted_of upload (all_works works)) → WasNotCut end
        → IsPlainEnd (file_at given.uploads upload) end
    by_end upload (Posted taps) was posted = record {
      batches = was.0;
      rest = [];
      fault = None;
      is_file = was.1;
      is_fault = refl;
      ended = ap Posted (was.3 ∙ ap length was.2
          ∙ (reordered given.shards was.0 (omega (arith, some, gathered.shards))).number);
    }
    by_end upload (Refused taps offset fault) was posted = record {
      batches = was.0;
      rest = was.1;
      fault = Some (offset, fault);
      is_file = was.2;
      is_fault = was.3;
      ended = ap (λ n. Refused n offset fault) (was.5 ∙ ap length was.4
          ∙ (reordered given.shards was.0 (omega (arith, some, gathered.shards))).number);
    }
    by_end upload (Cut taps) was posted = absurd posted
    by_end upload Undrawn was posted = absurd posted

    of_one : (upload : ℕ) (file : List ℕ) (end : UploadEnd)
        → slice_get given.uploads upload ≡ Some file → slice_get outcome.ends upload ≡ Some end
        → IsPlainEnd file end
    of_one upload file end at there =
        let W : UploadEnd → Type 0 = WasNotCut in
        let F : List ℕ → Type 0 = λ f. IsPlainEnd f end in
        subst F (get_or_from_slice_get given.uploads upload file [] at)
        (by_end upload end (posted_reported given works outcome gathered upload end there)
        (subst W (get_or_from_slice_get outcome.ends upload end Undrawn there)
        (whole upload Undrawn (slice_get_within outcome.ends upload end there))))
