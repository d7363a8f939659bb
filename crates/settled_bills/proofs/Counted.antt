-- Sorted files whose taps were counted: how they end.
use Rattle.std.proofs.Common.{◌≡◌, ℕ, zero, suc, ◌^◌, ◌<◌, List, [], ◌∷◌, length, map, true, None}
use Rattle.std.proofs.Common.{refl, sym, ap, subst, ◌∙◌, arith}
use Rattle.settled_bills.specs.Faults.{HaveTooManyTaps}
use Rattle.sorted_taps.specs.{Checked.AreCountedFiles, Merges.AreSortedFiles}
use Rattle.std.proofs.lemmas.List.{length-map, Concat.length-flat_map, Sums.sum-map}
use Rattle.std.specs.Prelude.{sum}
use Rattle.tap_views.specs.{Encoding.fields_of, Files.taps_of_batches, UploadEnds.ArePlainEnds}
use Rattle.tap_views.specs.{UploadEnds.are_posted, declared.encoder.TapFields.TapFields}
use Rattle.tap_views.specs.declared.upload_end.UploadEnd.TheVariants.{Posted}

-- files whose taps were all posted
pub all_posted : (numbers : List ℕ) → are_posted (map Posted numbers) ≡ true
all_posted [] = refl
all_posted (number ∷ numbers) = all_posted numbers

pub plain_ends : (files : List (List ℕ)) (lists : List (List TapFields))
    → AreSortedFiles files lists
    → ArePlainEnds files (map Posted (map length lists))
plain_ends [] [] sorted = tt
plain_ends [] (list ∷ lists) sorted =
    absurd (let number = sorted.number in omega (arith, number))
plain_ends (file ∷ files) [] sorted =
    absurd (let number = sorted.number in omega (arith, number))
plain_ends (file ∷ files) (list ∷ lists) sorted =
    let number = sorted.number in
    let first = (sorted.each zero (omega arith)).read in (
      record {
        batches = first.batches;
        rest = [];
        fault = None;
        is_file = first.is_file;
        is_fault = refl;
        ended = ap (λ n. Posted n)
            (ap length (sym first.read) ∙ length-map (taps_of_batches first.batches) fields_of);
      },
      plain_ends files lists (record {
        number = omega (arith, number);
        each = λ k inside. sorted.each (suc k) (omega (arith, inside));
      }),
    )

-- each of the files ends posted whole
pub counted_ends : (files : List (List ℕ)) (numbers : List ℕ) → AreCountedFiles files numbers
    → ArePlainEnds files (map Posted numbers)
counted_ends files numbers counted =
    subst (λ (ns : List ℕ). ArePlainEnds files (map Posted ns)) (sym counted.counted)
    (plain_ends files counted.lists counted.sorted)

-- sorted files with more taps than are counted
pub too_many : (files : List (List ℕ)) (numbers : List ℕ) → AreCountedFiles files numbers
    → 2 ^ 46 < sum numbers → HaveTooManyTaps files
too_many files numbers counted many =
    let all = ap sum counted.counted ∙ sum-map length counted.lists
    ∙ sym (length-flat_map (λ (list : List TapFields). list) counted.lists) in
    record {
      lists = counted.lists;
      sorted = counted.sorted;
      many = omega (arith, all, many);
    }
