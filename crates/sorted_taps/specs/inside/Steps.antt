-- Steps of a reader: what private functions alone cite.
use Rattle.sorted_taps.specs.{Readers.ahead, Reading.AreTapsBetween}
use Rattle.sorted_taps.specs.declared.reader.TapReader.{TapReader}
use Rattle.std.specs.Ordering.{is_lt}
use Rattle.std.specs.Prelude.{◌≡◌, ℕ, List, [], ◌∷◌, ◌++◌, drop, take, true}
use Rattle.tap_parts.specs.Canonical.{tap_cmp}
use Rattle.tap_views.specs.declared.encoder.TapFields.{TapFields}

-- the list has a first tap, which is before this tap
abbrev pub BeginsBefore : TapFields → List TapFields → Type 0
BeginsBefore tap [] = ⊥
BeginsBefore tap (head ∷ rest) = is_lt (tap_cmp head tap) ≡ true

-- both readers go on alike
pub record IsAlike (one other : TapReader) : Type 0 where
  pub offset : one.offset ≡ other.offset
  pub ahead : ahead one ≡ ahead other

-- the reader's taps are those of the file from its old offset on; it has none only at the file's
-- end
pub record IsRefilled (all : List ℕ) (old new : TapReader) : Type 0 where
  pub between : AreTapsBetween all old.offset new.offset new.taps.items
  pub first : new.next ≡ 0
  pub end : new.taps.items ≡ [] → drop new.offset all ≡ []
  pub number : new.passed ≡ old.passed

-- the reader goes on after this many taps in memory, with taps of the file from its old offset on
pub record IsMovedOn (all : List ℕ) (old : TapReader) (count : ℕ) (new : TapReader) : Type 0 where
  pub read : List TapFields
  pub between : AreTapsBetween all old.offset new.offset read
  pub goes_on : ahead old ++ read ≡ take count (ahead old) ++ ahead new
  pub end : ahead new ≡ [] → drop new.offset all ≡ []
  pub number : new.passed ≡ old.passed
