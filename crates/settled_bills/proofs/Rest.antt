-- What is left of sorted files after taps that were taken: with it they are all in canonical order.
use Rattle.std.proofs.Common.{◌≡◌, ◌∙◌, ℕ, zero, suc, ◌<◌, List, [], ◌∷◌, ◌++◌, All, append_assoc}
use Rattle.std.proofs.Common.{arith, ap, drop, get_or, length, map, refl, subst, sym}
use Rattle.settlement.proofs.Sorting.{canonical_order, unmoved}
use Rattle.settled_bills.proofs.SettledFiles.{file_taps}
use Rattle.sorted_taps.proofs.After.{after_read, none_of_nothing}
use Rattle.sorted_taps.proofs.Joining.{inner_swap, none_before, sorted_across, sorted_back}
use Rattle.sorted_taps.proofs.Taking.{all_of, some_of}
use Rattle.sorted_taps.specs.Merged.{BeginsNotBefore, IsNotBefore}
use Rattle.sorted_taps.specs.Merges.{AreStarted, AreSortedFiles, AreTaken}
use Rattle.sorted_taps.specs.Readers.{IsPassed, IsPositionedIn, ahead}
use Rattle.sorted_taps.specs.{Sorted.IsSortedFile, declared.reader.TapReader.TapReader}
use Rattle.std.proofs.{Math.Seq.drop-append_seam, lemmas.List.drop-map}
use Rattle.std.proofs.lemmas.List.{Elements.All-append, Elements.All-nil, Sorted.All-permutation}
use Rattle.std.proofs.lemmas.List.Sorted.{IsPermutation-append, IsPermutation-append_right}
use Rattle.std.proofs.lemmas.List.Sorted.{IsPermutation-refl, IsPermutation-trans}
use Rattle.std.specs.List.Sorted.{IsPermutation, IsSorted}
use Rattle.tap_parts.specs.{Canonical.IsCanonical, Canonical.tap_cmp, Parts.taps_of_uploads}
use Rattle.tap_views.specs.{Encoding.fields_of, Files.IsFile, Files.taps_of_batches, Layout.Tap}
use Rattle.tap_views.specs.declared.encoder.TapFields.{TapFields}

-- ---- one file
-- what a reader that began at its file's begin has left: it begins with the reader's head
left_of : (all : List ℕ) (old new : TapReader) (list run : List TapFields)
    → IsPositionedIn all 0 [] old → IsSortedFile all list → IsPassed all old run new
    → (left : List TapFields) × (list ≡ run ++ left)
    × ((tap : TapFields) → BeginsNotBefore tap (ahead new) → All (IsNotBefore tap) left)
left_of all old new list run is sorted passed =
    let (mid, mid_file, first) = after_read all 0 old.offset (ahead old) sorted.read.batches
    is.0.between sorted.read.is_file in
    let (last, last_file, then) = after_read all old.offset new.offset passed.read mid
    passed.between mid_file in
    let more = map fields_of (taps_of_batches last) in
    let whole : list ≡ run ++ (ahead new ++ more) =
    sym sorted.read.read ∙ first ∙ ap (λ l. ahead old ++ l) then
    ∙ sym (append_assoc (ahead old) passed.read more) ∙ ap (λ l. l ++ more) passed.goes_on
    ∙ append_assoc run (ahead new) more in (
      ahead new ++ more,
      whole,
      λ tap begins. none_before tap (ahead new ++ more)
          (sorted_back run (ahead new ++ more)
          (subst (λ l. IsSorted tap_cmp l) whole sorted.sorted))
          (by_list (ahead new) refl more (λ none. ap (λ bs. map fields_of (taps_of_batches bs))
          (none_of_nothing last (subst (λ l. IsFile l last []) (passed.end is.0.end none) last_file)))
          tap begins),
    )
  where
    by_list : (list : List TapFields) → ahead new ≡ list → (more : List TapFields)
        → (ahead new ≡ [] → more ≡ []) → (tap : TapFields) → BeginsNotBefore tap (ahead new)
        → BeginsNotBefore tap (ahead new ++ more)
    by_list [] e more end tap begins =
        subst (BeginsNotBefore tap) (sym (ap (λ l. l ++ more) e ∙ end e)) tt
    by_list (x ∷ list) e more end tap begins =
        subst (λ l. BeginsNotBefore tap (l ++ more)) (sym e) (subst (BeginsNotBefore tap) e begins)

-- ---- all files
all_left : (taps : List TapFields) (lists runs : List (List TapFields))
    → length runs ≡ length lists
    → ((k : ℕ) → k < length lists → (left : List TapFields)
    × (get_or lists k [] ≡ get_or runs k [] ++ left)
    × All (λ tap. All (IsNotBefore tap) left) taps)
    → (rest : List TapFields) × IsPermutation (all_of lists) (all_of runs ++ rest)
    × All (λ tap. All (IsNotBefore tap) rest) taps
all_left taps [] [] same each = (
  [],
  IsPermutation-refl [],
  λ j d low. All-nil (IsNotBefore (get_or taps j d)),
)
all_left taps [] (run ∷ runs) same each = absurd (omega (arith, same))
all_left taps (list ∷ lists) [] same each = absurd (omega (arith, same))
all_left taps (list ∷ lists) (run ∷ runs) same each =
    let (left, is, not) = each zero (omega arith) in
    let (rest, moved, nots) = all_left taps lists runs (omega (arith, same))
    (λ k low. each (suc k) (omega (arith, low))) in (
      left ++ rest,
      IsPermutation-trans (list ++ all_of lists) ((run ++ left) ++ (all_of runs ++ rest))
          ((run ++ all_of runs) ++ (left ++ rest))
          (subst (λ l. IsPermutation (list ++ all_of lists) (l ++ (all_of runs ++ rest))) is
          (IsPermutation-append_right list (all_of lists) (all_of runs ++ rest) moved))
          (inner_swap run left (all_of runs) rest),
      λ j d low. All-append (IsNotBefore (get_or taps j d)) left rest (not j d low) (nots j d low),
    )

after_front : (front left : List TapFields) (taps : List Tap)
    → front ++ left ≡ map fields_of taps → map fields_of (drop (length front) taps) ≡ left
after_front front left taps same =
    sym (drop-map fields_of (length front) taps) ∙ ap (drop (length front)) (sym same)
    ∙ drop-append_seam front left

-- taps that were taken of sorted files go on to all their taps, in canonical order
pub goes_on : (files : List (List ℕ)) (lists : List (List TapFields)) (started new : List TapReader)
    (taps : List TapFields) → AreSortedFiles files lists → AreStarted files started
    → AreTaken files started taps new
    → (rest : List TapFields) × IsCanonical (all_of lists) (taps ++ rest)
goes_on files lists started new taps sorted is taken =
    let number = is.number in
    let count = sorted.number in
    let many = taken.number in
    let (left, moved, not) = all_left taps lists taken.runs (omega (arith, number, count, many))
    (λ k low.
    let here : k < length started = omega (arith, low, number, count) in
    let d = some_of started k here in
    let (left, whole, begins) = left_of (get_or files k []) (get_or started k d) (get_or new k d)
    (get_or lists k []) (get_or taken.runs k []) (is.each k d here)
    (sorted.each k (omega (arith, low, count))) (taken.each k d here) in
    (left, whole, λ j e within. begins (get_or taps j e) (taken.left k d here j e within))) in
    let front = all_of taken.runs in
    let of = file_taps files lists sorted in
    let (others, same) = unmoved (taps_of_uploads of.taps) (front ++ left)
    (subst (λ l. IsPermutation l (front ++ left)) (sym of.fields) moved) in
    let (order, canonical) = canonical_order (drop (length front) others) in
    let rest = map fields_of order in
    let of_rest : IsCanonical left rest = subst (λ l. IsCanonical l rest)
    (after_front front left others same) canonical in (
      rest,
      record {
        moved = IsPermutation-trans (all_of lists) (front ++ left) (taps ++ rest) moved
            (IsPermutation-append front taps left rest taken.canonical.moved
            of_rest.moved);
        sorted = sorted_across taps rest (λ j d within.
            All-permutation (IsNotBefore (get_or taps j d)) left rest of_rest.moved
            (not j d within)) taken.canonical.sorted of_rest.sorted;
      },
    )
