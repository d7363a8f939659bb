-- Where two lists first differ.
use Rattle.std.specs.Prelude.{◌≡◌, ◌≢◌, ℕ, List, Option, Some, None, take, slice_get}
use Rattle.histories.specs.declared.entry.Entry.{Entry}

-- the lists agree before the place, and at the place they do not: another entry, or one list has
-- ended
pub record DifferFirstAt (left right : List Entry) (position : ℕ) : Type 0 where
  pub before : take position left ≡ take position right
  pub here : slice_get left position ≢ slice_get right position

-- the first place where the lists differ, or none if they are equal
abbrev pub IsFirstDifference : List Entry → List Entry → Option ℕ → Type 0
IsFirstDifference left right None = left ≡ right
IsFirstDifference left right (Some position) = DifferFirstAt left right position
