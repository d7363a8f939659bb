-- Places of files, between which the taps of parts lie.
use Rattle.sorted_taps.specs.{Readers.AreRead, Readers.ahead, Reading.AreTapsBetween}
use Rattle.sorted_taps.specs.declared.positions.{FileSpan.FileSpan, Position.Position}
use Rattle.sorted_taps.specs.declared.reader.TapReader.{TapReader}
use Rattle.std.specs.List.Sorted.{IsSorted}
use Rattle.std.specs.Prelude.{◌≡◌, ℕ, ◌<◌, ◌≤◌, List, [], ◌∷◌, ◌++◌, All, length, get_or, map, take}
use Rattle.std.specs.Prelude.{drop, Option, None, Some}
use Rattle.tap_parts.specs.Canonical.{tap_cmp}
use Rattle.tap_views.specs.declared.encoder.TapFields.{TapFields}

-- the place at which a file begins
abbrev pub first_position : Position
first_position = record { offset = 0; skip = 0 }

-- these taps lie after the place, up to the file's end
pub record IsLeftAt (all : List ℕ) (position : Position) (rest : List TapFields) : Type 0 where
  pub taps : List TapFields
  pub between : AreTapsBetween all position.offset (length all) taps
  pub skip : position.skip ≤ length taps
  pub rest_is : rest ≡ drop position.skip taps

-- these taps lie after the place, or after the file's end if there is none
abbrev pub IsLeftAfter : List ℕ → Option Position → List TapFields → Type 0
IsLeftAfter all None rest = rest ≡ []
IsLeftAfter all (Some position) rest = IsLeftAt all position rest

-- the taps lie between the two places, in canonical order, the first tap after them included
pub record IsSpanned (all : List ℕ) (span : FileSpan) (taps : List TapFields) : Type 0 where
  pub goes : (rest : List TapFields) → IsLeftAfter all span.to rest
      → IsLeftAt all span.from (taps ++ rest)
  pub sorted : (rest : List TapFields) → IsLeftAfter all span.to rest
      → IsSorted tap_cmp (taps ++ take 1 rest)

-- each file has a span, in which it has the taps of a list
abbrev pub AreSpanned : List (List ℕ) → List FileSpan → List (List TapFields) → Type 0
AreSpanned [] [] [] = Unit {0}
AreSpanned (all ∷ files) (span ∷ spans) (taps ∷ lists) =
    IsSpanned all span taps × AreSpanned files spans lists
AreSpanned _ _ _ = ⊥

-- the spans of the files in each part begin where those of the part before it end: these are the
-- ends before the first part; and the last ones end where the files do
abbrev pub DoJoin : List (Option Position) → List (List FileSpan) → Type 0
DoJoin ends [] = All (λ end. end ≡ None) ends
DoJoin ends (spans ∷ parts) =
    (ends ≡ map (λ (span : FileSpan). Some span.from) spans)
    × DoJoin (map (λ (span : FileSpan). span.to) spans) parts

-- the spans of the parts join from the begins of the files to their ends
abbrev pub AreWhole : List (List FileSpan) → Type 0
AreWhole [] = ⊥
AreWhole (spans ∷ parts) =
    DoJoin (map (λ (span : FileSpan). Some first_position) spans) (spans ∷ parts)

-- the reader is after as many taps of the batches that begin at the place's offset as it says,
-- and they are in canonical order up to the tap at which it is
pub record IsPlaced (all : List ℕ) (position : Position) (reader : TapReader) : Type 0 where
  pub passed : List TapFields
  pub skip : position.skip ≡ length passed
  pub holds : AreRead all position.offset reader.offset passed (ahead reader)

-- the reader is at the place, and counts the taps that it passes from there on
abbrev pub IsPlacedAnew : List ℕ → Position → TapReader → Type 0
IsPlacedAnew all position reader = IsPlaced all position reader × (reader.passed ≡ 0)

-- each of the files has a place, and a reader there
pub record ArePlaced (files : List (List ℕ)) (positions : List Position) (readers : List TapReader)
    : Type 0 where
  pub each : (k : ℕ) (p : Position) (d : TapReader) → k < length readers
      → IsPlacedAnew (get_or files k []) (get_or positions k p) (get_or readers k d)

-- the reader is at the place, or at no tap if there is none
abbrev pub IsAt : List ℕ → Option Position → TapReader → Type 0
IsAt all None reader = ahead reader ≡ []
IsAt all (Some position) reader = IsPlaced all position reader

-- the spans begin at these places, and end where the readers are
pub record DoSpan (files : List (List ℕ)) (positions : List Position) (readers : List TapReader)
    (spans : List FileSpan) : Type 0 where
  pub each : (k : ℕ) (p : Position) (d : TapReader) (s : FileSpan) → k < length spans
      → ((get_or spans k s).from ≡ get_or positions k p)
      × IsAt (get_or files k []) (get_or spans k s).to (get_or readers k d)
