-- How the writing of a text ends: what private functions alone cite.
use Rattle.fare_program.specs.declared.fault.Fault.{Fault, TheVariants.Late, TheVariants.Write}
use Rattle.fare_program.specs.inside.Fault.{outside_of}
use Rattle.fare_texts.specs.WrittenOut.{Begins}
use Rattle.frame.specs.{Outsides.LeavesFiles, declared.outside.Outside.TheVariants.Untraced}
use Rattle.std.specs.Io.KnownBytes.{Appends, Keeps}
use Rattle.std.specs.Prelude.{◌≡◌, ℕ, List, Bool, None, Option, Some, Result, Ok, Err, map, true}
use Rattle.world.specs.{Origins.with_loads, Run.Load, Run.Run}

-- the text of sorted files was broken off: one of them was refused after all were checked
abbrev pub IsLate : Fault → Type 0
IsLate (Late fault) = Unit {0}
IsLate _ = ⊥

-- What a fault leaves: a prefix of a right text if a write failed, else nothing, unless a sorted file
-- was refused after all were checked.
abbrev pub Stops : (List ℕ → Type 0) → Option (List ℕ) → Option (List ℕ) → Fault → Type 0
Stops Right out out' Write = (text : List ℕ) × Right text × Begins out out' text
Stops Right out out' (Late fault) = Unit {0}
Stops Right out out' fault = Keeps out out'

-- A text that succeeds or not is written whole, unless a fault stops it. The text of which a prefix
-- was written is right if this is given.
abbrev pub GivesIf : Type 0 → (List ℕ → Bool → Type 0) → Option (List ℕ) → Option (List ℕ)
    → Result Bool Fault → Type 0
GivesIf Given Right out out' (Ok success) =
    (text : List ℕ) × Right text success × Appends out out' text
GivesIf Given Right out out' (Err fault) =
    Stops (λ text. Given → (success : Bool) × Right text success) out out' fault

-- The same where nothing need be given.
abbrev pub Gives : (List ℕ → Bool → Type 0) → Option (List ℕ) → Option (List ℕ)
    → Result Bool Fault → Type 0
Gives = GivesIf (Unit {0})

-- A text of sorted files of which this is known succeeds, and is right of them.
abbrev pub OfKnown : List (Option (List ℕ)) → (List (List ℕ) → List ℕ → Type 0) → List ℕ → Bool
    → Type 0
OfKnown known Right text success =
    (success ≡ true) × ((files : List (List ℕ)) → known ≡ map Some files → Right files text)

-- What is asked for of a run that loads files and writes a text.
pub record Aim : Type 1 where
  -- the text is right, and succeeds or not; the text of which a prefix was written is right if this
  -- is given
  pub Given : Type 0
  pub Right : List Load → List ℕ → Bool → Type 0
  -- what is wrong of what was loaded; sorted files are read; the names of all files that are loaded
  pub Wrong : List Load → Type 0
  pub Late : Type 0
  pub names : List (Option (List ℕ))

-- The fault stopped the run after these loads.
pub record HasStopped (aim : Aim) (loads : List Load) (fault : Fault) (old new : Run) : Type 0 where
  pub late : outside_of None fault ≡ Untraced → aim.Late
  pub left : LeavesFiles (aim.Wrong loads) aim.names (outside_of None fault) (with_loads old loads) new

-- Files were loaded, and the text was written whole, unless a fault stopped the run.
abbrev pub Works : Aim → Run → Run → Option (List ℕ) → Option (List ℕ) → Result Bool Fault → Type 0
Works aim old new out out' (Ok success) = (loads : List Load) × (new ≡ with_loads old loads)
    × (text : List ℕ) × aim.Right loads text success × Appends out out' text
Works aim old new out out' (Err fault) = (loads : List Load) × HasStopped aim loads fault old new
    × Stops (λ text. aim.Given → (success : Bool) × aim.Right loads text success) out out' fault
