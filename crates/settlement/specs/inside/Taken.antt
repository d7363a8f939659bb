-- What is kept of uploads that were read one after another. Private functions alone cite this.
use Rattle.settlement.specs.Reading.{AreRead}
use Rattle.std.specs.{List.AllZip, Prelude.◌≡◌, Prelude.◌+◌}
use Rattle.std.specs.Prelude.{◌<◌, ◌++◌, ℕ, List, All, length, map, flat_map, slice_index_or, []}
use Rattle.tap_parts.specs.{Canonical.HasTokenBytes, Parts.taps_at, Parts.taps_of_uploads}
use Rattle.tap_parts.specs.Ranges.{range_of_token}
use Rattle.tap_views.specs.{Encoding.fields_of, Files.AreValidTaps, Files.AreValidTapsOfEach}
use Rattle.tap_views.specs.{Layout.Tap, UploadEnds.ArePlainEnds, UploadEnds.IsPlainEnd}
use Rattle.tap_views.specs.declared.{encoder.TapFields.TapFields, upload_end.UploadEnd.UploadEnd}
use Rattle.tap_views.specs.declared.upload_end.UploadEnd.TheVariants.{Posted, Refused}
use Rattle.world.specs.{Origins.IsProvided, Origins.Origin, Run.Run}

-- the tap's token has 16 bytes
abbrev pub HasToken : Tap → Type 0
HasToken tap = HasTokenBytes (fields_of tap)

-- the upload's valid taps have tokens of 16 bytes
abbrev pub HasValidTokens : List ℕ → Type 0
HasValidTokens upload = (taps : List Tap) → AreValidTaps upload taps → All HasToken taps

-- The files are what the uploads from one number on, and below another, were read as, and these
-- are their ends. What is said of taps holds of all their valid taps, whose tokens have 16 bytes.
pub record AreTaken (origin : ℕ → Origin) (start end : ℕ) (said : List Tap → Type 0)
    (ends : List UploadEnd) (before after : Run) : Type 0 where
  pub files : List (List ℕ)
  pub read : AreRead origin start end files before after
  pub taps : List (List Tap)
  pub of_files : AreValidTapsOfEach files taps
  pub ended : ArePlainEnds files ends
  pub tokens : All HasToken (taps_of_uploads taps)
  pub holds : said (taps_of_uploads taps)

-- the upload's valid taps were added to what is kept, and the upload ends so
pub record IsUploadKept {K : Type 0} (keeps : List Tap → K → Type 0) (upload : List ℕ) (old new : K)
    (end : UploadEnd) : Type 0 where
  pub taps : List Tap
  pub of_upload : AreValidTaps upload taps
  pub ended : IsPlainEnd upload end
  pub added : (before : List Tap) → keeps before old → keeps (before ++ taps) new

-- The upload was read as some file from its origin. The file's valid taps, whose tokens have 16
-- bytes, were added to what is kept, and it ends so.
pub record IsUploadTaken {K : Type 0} (keeps : List Tap → K → Type 0) (origin : Origin)
    (old new : K) (end : UploadEnd) (before after : Run) : Type 0 where
  pub file : List ℕ
  pub provided : IsProvided origin before after file
  pub kept : IsUploadKept keeps file old new end
  pub tokens : All HasToken kept.taps

-- how many bytes the valid batches of an upload have, by its length and its end
abbrev pub used_in : ℕ → UploadEnd → ℕ
used_in long (Refused taps offset fault) = offset
used_in long _ = long

-- the end with other taps, and with its fault at another offset
abbrev pub end_at : ℕ → ℕ → UploadEnd → UploadEnd
end_at taps offset (Refused _ _ fault) = Refused taps offset fault
end_at taps offset _ = Posted taps

-- the taps are in runs, and of each run this is kept
pub record AreInRuns {K : Type 0} (keeps : List Tap → K → Type 0) (kept : List K) (taps : List Tap)
    : Type 0 where
  pub runs : List (List Tap)
  pub whole : taps ≡ taps_of_uploads runs
  pub each : AllZip keeps runs kept

-- the taps of each range of tokens
pub record ArePartsOf (bounds : List ℕ) (taps : List Tap) (parts : List (List TapFields))
    : Type 0 where
  pub number : length parts ≡ length bounds + 1
  pub each : (part : ℕ) → part < length bounds + 1 → slice_index_or parts part []
      ≡ map fields_of (taps_at (range_of_token bounds) part taps)

-- the taps that a part has in several lists of parts, list after list
abbrev pub in_part : ℕ → List (List (List TapFields)) → List TapFields
in_part part lists = flat_map (λ parts. slice_index_or parts part []) lists

-- each part has its taps and then its piece of these, and nothing else
pub record ArePiecesAdded (pieces old new : List (List TapFields)) : Type 0 where
  pub number : length new ≡ length old
  pub each : (part : ℕ) → part < length old
      → slice_index_or new part [] ≡ slice_index_or old part [] ++ slice_index_or pieces part []
