-- Sorted uploads that are merged, and those that are refused.
use Rattle.std.proofs.Common.{◌≡◌, ◌∙◌, ℕ, List, [], ◌∷◌, Option, Some, ap, length, map, refl}
use Rattle.std.proofs.Common.{subst, sym}
use Rattle.frame.proofs.Giving.{known_whole}
use Rattle.frame.specs.Outsides.{Stops}
use Rattle.frame.specs.declared.outside.Outside.{Outside, TheVariants.Wrong}
use Rattle.sorted_taps.specs.{Checked.IsFirstFault, Written.IsInBatchesOf512, Written.IsMergedFile}
use Rattle.sorted_taps.specs.declared.fault.SortedFault.{SortedFault}
use Rattle.std.proofs.lemmas.Simd.{map-map}
use Rattle.std.specs.Prelude.{slice_get}
use Rattle.tap_views.specs.declared.upload_end.UploadEnd.{UploadEnd, TheVariants.Posted}
use Rattle.tool_tasks.specs.MergeSorted.{IsMergeOf, IsOfBytes, IsUnsorted}
use Rattle.tool_tasks.specs.inside.Sort.{why_of}
use Rattle.sorted_taps.specs.declared.fault.SortedFault.TheVariants as sorted

-- why the file at this place was refused
module _ (words : List (List ℕ)) (known : List (Option (List ℕ))) (index : ℕ) (word : List ℕ)
    (at : slice_get words index ≡ Some word) where
  abbrev IsFirst : SortedFault → Type 0
  IsFirst fault = (files : List (List ℕ)) → known ≡ map Some files
      → IsFirstFault files (record { index = index; fault = fault })

  wrong : (fault : SortedFault) → IsOfBytes fault → IsFirst fault
      → Stops (IsUnsorted words known) Wrong
  wrong fault of_bytes first names run =
      ((word, fault, of_bytes, record { index = index; named = at; first = first }), refl)

  pub stops_file : (fault : SortedFault) (why : Outside) → IsFirst fault → why ≡ why_of fault
      → Stops (IsUnsorted words known) why
  stops_file (sorted.OutOfOrder tap) why first is =
      rw is (wrong (sorted.OutOfOrder tap) tt first)
  stops_file (sorted.Layout offset fault) why first is =
      rw is (wrong (sorted.Layout offset fault) tt first)
  stops_file sorted.Unread why first is = rw is (λ names run. refl)
  stops_file sorted.NoMemory why first is = rw is (λ names run. refl)

-- the bytes of the file that was written
pub whole_file : (uploads : List (List ℕ)) (numbers : List ℕ) (ends : List UploadEnd)
    (empty written : Option (List ℕ)) (bytes : List ℕ) (merged : IsMergedFile uploads numbers empty written)
    → ends ≡ map Posted numbers → empty ≡ Some [] → written ≡ Some bytes
    → IsMergeOf uploads ends bytes
whole_file uploads numbers ends empty written bytes merged ended is_empty is =
    let same : Some bytes ≡ Some merged.written.file = sym is
    ∙ known_whole empty written merged.written.file is_empty merged.written.appended in
    let file : merged.written.file ≡ bytes = cc in
    record {
      lists = merged.lists;
      sorted = merged.sorted;
      ended = ended ∙ ap (map Posted) merged.counted ∙ map-map Posted length merged.lists;
      merged = merged.merged;
      canonical = merged.canonical;
      in_batches = subst (λ b. IsInBatchesOf512 b merged.merged) file merged.written.is_file;
    }
