-- What reads of a file at an offset give.
use Rattle.std.specs.Prelude.{◌≡◌, ℕ, ◌<◌, ◌≤◌, List, [], length, take, drop}

-- one read at this offset gave `count` bytes: none only at the file's end, or with no room
pub record IsReadAt (all : List ℕ) (offset : ℕ) (buffer : List ℕ) (count : ℕ) : Type 0 where
  pub within : count ≤ length (drop offset all)
  pub same : take count buffer ≡ take count (drop offset all)
  pub end : count ≡ 0 → 0 < length buffer → drop offset all ≡ []

-- the buffer begins with `count` bytes of the file from this offset on; if it is not full, the file
-- ends after them
pub record IsFilledFrom (all : List ℕ) (offset : ℕ) (buffer : List ℕ) (count : ℕ) : Type 0 where
  pub within : count ≤ length (drop offset all)
  pub same : take count buffer ≡ take count (drop offset all)
  pub short : count < length buffer → count ≡ length (drop offset all)
