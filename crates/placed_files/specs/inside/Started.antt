-- Buffers that are filled by several reads: what holds between two of them.
use Rattle.std.specs.Prelude.{◌≡◌, ℕ, ◌≤◌, List, length, take, drop}

-- the buffer begins with `count` bytes of the file from this offset on
pub record IsStartedFrom (all : List ℕ) (offset : ℕ) (buffer : List ℕ) (count : ℕ) : Type 0 where
  pub within : count ≤ length (drop offset all)
  pub same : take count buffer ≡ take count (drop offset all)
