-- What a write, and a file that cannot be made, leave.
use Rattle.std.specs.Prelude.{◌≡◌, ℕ, List, ◌++◌}
use Rattle.world.specs.Run.{Run, with_cut, with_said, with_unmade, with_written}
use Rattle.world.specs.declared.faults.MakeFault.{MakeFault}
use Rattle.world.specs.declared.faults.MakeFault.TheVariants.{Exists, NoMemory, Unmade}
use Rattle.world.specs.declared.faults.WriteFault.{WriteFault}

-- A prefix of the piece was written, and then a write failed.
pub record IsCut (old new : Run) (piece : List ℕ) (fault : WriteFault) : Type 0 where
  pub front : List ℕ
  pub rest : List ℕ
  pub whole : piece ≡ front ++ rest
  pub prefix : new ≡ with_cut (with_written old front) fault

-- Something was given to the standard error, and nothing else was done.
pub record IsSaid (old new : Run) : Type 0 where
  pub text : List ℕ
  pub only : new ≡ with_said old text

-- The file of this name could not be made, or an allocation failed. Nothing else was done.
abbrev pub IsUnmade : Run → Run → List ℕ → MakeFault → Type 0
IsUnmade old new name Exists = new ≡ with_unmade old name
IsUnmade old new name Unmade = new ≡ with_unmade old name
IsUnmade old new name NoMemory = new ≡ old
