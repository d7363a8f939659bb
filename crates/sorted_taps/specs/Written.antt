-- Files that are written of taps, and what is in the output meanwhile.
use Rattle.sorted_taps.specs.Merges.{AreSortedFiles}
use Rattle.std.specs.{Io.KnownBytes.Appends, List.AllByRecursion, List.AllZip}
use Rattle.std.specs.Prelude.{◌≡◌, ℕ, ◌<◌, ◌≤◌, List, [], ◌∷◌, length, map, flat_map, Option}
use Rattle.tap_parts.specs.Canonical.{IsCanonical}
use Rattle.tap_views.specs.{Encoding.Encodes, Files.IsFileOf, declared.encoder.TapFields.TapFields}

-- the bytes are a `TAP1` batch of each list, one after the other
pub record AreBatchesOf (bytes : List ℕ) (batches : List (List TapFields)) : Type 0 where
  pub texts : List (List ℕ)
  pub each : AllZip Encodes texts batches
  pub all_bytes : bytes ≡ flat_map (λ text. text) texts

-- each batch but the last has 512 taps, and the last has 1 to 512
abbrev pub AreFilled : List (List TapFields) → Type 0
AreFilled [] = Unit {0}
AreFilled (batch ∷ batches) =
    (0 < length batch) × (length batch ≤ 512) × (0 < length batches → length batch ≡ 512)
    × AreFilled batches

-- the file is read as these taps with no layout fault, and has them in `TAP1` batches of 512, the
-- last of fewer if need be
pub record IsInBatchesOf512 (file : List ℕ) (taps : List TapFields) : Type 0 where
  pub reads : IsFileOf file taps
  pub batches : List (List TapFields)
  pub are : AreBatchesOf file batches
  pub all_taps : taps ≡ flat_map (λ batch. batch) batches
  pub filled : AreFilled batches

-- after the old bytes is a file of these taps, in batches of 512
pub record IsWritten (old new : Option (List ℕ)) (taps : List TapFields) : Type 0 where
  pub file : List ℕ
  pub is_file : IsInBatchesOf512 file taps
  pub appended : Appends old new file

-- after the old bytes are whole batches of 512 taps
pub record IsPartlyWritten (old new : Option (List ℕ)) : Type 0 where
  pub text : List ℕ
  pub batches : List (List TapFields)
  pub are : AreBatchesOf text batches
  pub full : AllByRecursion (λ batch. length batch ≡ 512) batches
  pub appended : Appends old new text

-- Each file is sorted, and the numbers are those of their taps. After the old bytes is a file
-- of all their taps in canonical order, in batches of 512.
pub record IsMergedFile (files : List (List ℕ)) (numbers : List ℕ) (old new : Option (List ℕ))
    : Type 0 where
  pub lists : List (List TapFields)
  pub sorted : AreSortedFiles files lists
  pub counted : numbers ≡ map length lists
  pub merged : List TapFields
  pub canonical : IsCanonical (flat_map (λ list. list) lists) merged
  pub written : IsWritten old new merged
