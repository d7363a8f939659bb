-- What `sort` does.
use Rattle.frame.specs.{Given.Given, Given.LoadsFiles, Given.file_of, Names.file_named}
use Rattle.frame.specs.Outcome.{Rule, rule_of}
use Rattle.report_texts.specs.Report.{upload_lines}
use Rattle.settlement.specs.SettledTaps.{AreSettledTaps}
use Rattle.sorted_taps.specs.Written.{IsInBatchesOf512}
use Rattle.std.specs.Prelude.{◌≡◌, ℕ, List, [], ◌∷◌, ◌++◌, if◌then◌else◌, map, unwrap_or}
use Rattle.tap_views.specs.UploadEnds.{ArePlainEnds, are_posted}
use Rattle.tap_views.specs.declared.{encoder.TapFields.TapFields, upload_end.UploadEnd.UploadEnd}
use Rattle.tool_tasks.specs.Files.{named_files}
use Rattle.tool_words.specs.Request.{SortRequest}
use Rattle.world.specs.Run.{Named}

-- The file has exactly the valid taps of the uploads, in canonical order and in batches of 512, the
-- last of fewer if need be. None is empty.
pub record IsSortedOf (uploads : List (List ℕ)) (file : List ℕ) : Type 0 where
  pub order : List TapFields
  pub settled : AreSettledTaps uploads order
  pub in_batches : IsInBatchesOf512 file order

-- the files that the words name: the one that is made, that of the uploads' ends, and the uploads
abbrev pub names_of : SortRequest → List (List ℕ)
names_of request = request.out ∷ unwrap_or request.ends request.out ∷ request.uploads

-- the file of the lines of the uploads' ends, if it has a name, and then that of their taps
abbrev pub files_of : SortRequest → List ℕ → List ℕ → List Named
files_of request lines file = named_files request.ends lines ++ file_of request.out file ∷ []

-- The uploads were loaded. The file of the lines of their ends is made, if it has a name, and then the
-- file of exactly their valid taps.
pub record Sorts (request : SortRequest) (given : Given) (status : ℕ) : Type 0 where
  pub uploads : List (List ℕ)
  pub loaded : LoadsFiles (map file_named request.uploads) given.loads uploads
  pub ends : List UploadEnd
  pub plain : ArePlainEnds uploads ends
  pub file : List ℕ
  pub sorted : IsSortedOf uploads file
  pub made : given.files ≡ files_of request (upload_lines 0 ends) file
  pub text : given.text ≡ []
  pub success : status ≡ (if are_posted ends then 0 else 3)

-- THE rule of `sort`
abbrev pub sort_rule : SortRequest → Rule
sort_rule request = rule_of (Sorts request) (λ loads. ⊥) (names_of request)
