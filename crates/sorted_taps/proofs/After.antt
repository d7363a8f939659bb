-- Batches are read in one way: what is left of a file after some that were read.
use Rattle.std.proofs.Common.{◌≡◌, ◌∙◌, ℕ, List, [], ◌∷◌, ◌++◌, ap, drop, map, refl, subst, sym}
use Rattle.sorted_taps.proofs.Batches.{batches_of, none_taken, taps_append}
use Rattle.sorted_taps.specs.Reading.{AreBatches, AreTapsBetween}
use Rattle.tap_views.proofs.Reading.{one_batch}
use Rattle.tap_views.specs.{Encoding.fields_of, Files.IsFile, Files.taps_of_batches, Layout.Tap}
use Rattle.tap_views.specs.declared.encoder.TapFields.{TapFields}

-- a file that begins with batches goes on with the others
file_split : (bytes back : List ℕ) (some all : List (List Tap)) → AreBatches bytes some back
    → IsFile bytes all []
    → (more : List (List Tap)) × (all ≡ some ++ more) × IsFile back more []
file_split bytes back [] all same file = (all, refl, subst (λ l. IsFile l all []) same file)
file_split bytes back (batch ∷ some) [] (first, rest, is_batch, cut, others) (empty, none) =
    absurd (none first rest batch is_batch (sym empty ∙ cut))
file_split bytes back (batch ∷ some) (other ∷ all) (first, rest, is_batch, cut, others)
    (head, trailing, is_other, whole, file)
    =
    let (same, left, heads) =
    one_batch bytes first head rest trailing batch other is_batch cut is_other whole in
    let (more, joined, last) = file_split rest back some all others
    (subst (λ l. IsFile l all []) (sym left) file) in
    (more, ap (λ batch. batch ∷ all) (sym same) ∙ ap (λ l. batch ∷ l) joined, last)

-- no bytes are no batches
pub none_of_nothing : (batches : List (List Tap)) → IsFile [] batches [] → batches ≡ []
none_of_nothing batches file = none_taken [] [] batches (batches_of [] [] batches file) refl

-- after batches that were read, the others are left
pub after_read : (all : List ℕ) (from to : ℕ) (read : List TapFields) (batches : List (List Tap))
    → AreTapsBetween all from to read → IsFile (drop from all) batches []
    → (more : List (List Tap)) × IsFile (drop to all) more []
    × (map fields_of (taps_of_batches batches)
    ≡ read ++ map fields_of (taps_of_batches more))
after_read all from to read batches between file =
    let (more, joined, last) =
    file_split (drop from all) (drop to all) between.batches batches between.are file in (
      more,
      last,
      ap (λ batches. map fields_of (taps_of_batches batches)) joined
          ∙ taps_append between.batches more
          ∙ ap (λ taps. taps ++ map fields_of (taps_of_batches more)) between.read,
    )
