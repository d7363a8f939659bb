-- What `sort --merge` does, by what is known of the uploads' bytes.
use Rattle.frame.specs.{Given.Given, Outcome.Rule, Outcome.rule_of}
use Rattle.report_texts.specs.Report.{upload_lines}
use Rattle.sorted_taps.specs.{Checked.IsFirstUnsorted, Merges.AreSortedFiles}
use Rattle.sorted_taps.specs.{Written.IsInBatchesOf512, declared.fault.SortedFault.SortedFault}
use Rattle.std.specs.Prelude.{◌≡◌, ⊤, ℕ, List, [], Option, Some, flat_map, length, map}
use Rattle.tap_parts.specs.Canonical.{IsCanonical}
use Rattle.tap_views.specs.declared.encoder.TapFields.{TapFields}
use Rattle.tap_views.specs.declared.upload_end.UploadEnd.{UploadEnd, TheVariants.Posted}
use Rattle.tool_tasks.specs.Sort.{files_of, names_of}
use Rattle.tool_words.specs.Request.{SortRequest}
use Rattle.sorted_taps.specs.declared.fault.SortedFault.TheVariants as sorted

-- Each upload is sorted, and ended with all its taps. The file has exactly these, in canonical
-- order and in batches of 512, the last of fewer if need be. None is empty.
pub record IsMergeOf (uploads : List (List ℕ)) (ends : List UploadEnd) (file : List ℕ)
    : Type 0 where
  pub lists : List (List TapFields)
  pub sorted : AreSortedFiles uploads lists
  pub ended : ends ≡ map (λ list. Posted (length list)) lists
  pub merged : List TapFields
  pub canonical : IsCanonical (flat_map (λ list. list) lists) merged
  pub in_batches : IsInBatchesOf512 file merged

-- The file of the lines of the uploads' ends is made, if it has a name, and then that of their taps.
-- If the uploads' bytes are known, these are the right files. No file is loaded.
pub record Merges (request : SortRequest) (known : List (Option (List ℕ))) (given : Given)
    (status : ℕ) : Type 0 where
  pub unloaded : given.loads ≡ []
  pub ends : List UploadEnd
  pub file : List ℕ
  pub whole : (uploads : List (List ℕ)) → known ≡ map Some uploads → IsMergeOf uploads ends file
  pub made : given.files ≡ files_of request (upload_lines 0 ends) file
  pub text : given.text ≡ []
  pub success : status ≡ 0

-- a fault that bytes show, and no failed read
abbrev pub IsOfBytes : SortedFault → Type 0
IsOfBytes (sorted.OutOfOrder tap) = ⊤
IsOfBytes (sorted.Layout offset fault) = ⊤
IsOfBytes fault = ⊥

-- of files under these words, of which this is known, this is the first that is not sorted, and why
abbrev pub IsUnsorted : List (List ℕ) → List (Option (List ℕ)) → Type 0
IsUnsorted words known = (word : List ℕ) × (fault : SortedFault) × IsOfBytes fault
    × IsFirstUnsorted words known word fault

-- THE rule of `sort --merge`
abbrev pub merge_sorted_rule : SortRequest → List (Option (List ℕ)) → Rule
merge_sorted_rule request known =
    rule_of (Merges request known) (λ loads. IsUnsorted request.uploads known) (names_of request)
