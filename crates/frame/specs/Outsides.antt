-- What stops a run, and what it leaves.
use Rattle.frame.specs.{Given.Given, Given.IsPart, Given.gave, Names.file_named}
use Rattle.frame.specs.declared.outside.Outside.{Outside, TheVariants.NoMemory, TheVariants.Unmade}
use Rattle.frame.specs.declared.outside.Outside.TheVariants.{Unread, Untraced, Unwritten, Wrong}
use Rattle.std.specs.Prelude.{◌≡◌, ℕ, Bool, true, false, Contains, List, MatchBool, Option}
use Rattle.world.specs.{Loads.IsRefused, Run.Run, Run.with_cut, Writes.IsSaid, Writes.IsUnmade}
use Rattle.world.specs.declared.faults.WriteFault.{WriteFault}
use Rattle.world.specs.declared.faults.WriteFault.TheVariants.{Closed, Refused}

-- What stopped a run leaves this of it: of one of these words the file was refused, or not made; or
-- what a file holds is wrong, and this is true.
abbrev pub LeavesBy : Type 0 → List (List ℕ) → Outside → Run → Run → Type 0
LeavesBy truth words (Unread why) before after =
    (word : List ℕ) × Contains words word × IsRefused before after (file_named word) why
LeavesBy truth words (Unwritten why) before after = after ≡ with_cut before why
LeavesBy truth words (Unmade why is_partial) before after =
    (word : List ℕ) × Contains words word × IsUnmade before after word why
LeavesBy truth words Wrong before after = truth × (after ≡ before)
LeavesBy truth words Untraced before after = after ≡ before
LeavesBy truth words NoMemory before after = after ≡ before

-- the same, and no file is wrong
abbrev pub Leaves : List (List ℕ) → Outside → Run → Run → Type 0
Leaves words why before after = LeavesBy ⊥ words why before after

-- it left every run as it was: an allocation failed, or what is said of a wrong file is true
abbrev pub Stops : Type 0 → Outside → Type 0
Stops truth why = (words : List (List ℕ)) (run : Run) → LeavesBy truth words why run run

-- A part of what was to be given was, and then this stopped the run.
pub record IsStoppedIn (words : List (List ℕ)) (start new : Run) (whole : Given) (why : Outside)
    : Type 0 where
  pub part : Given
  pub is_part : IsPart part whole
  pub leaves : Leaves words why (gave start part) new

-- whatever was given before, a part of what was to follow was given
abbrev pub StopsIn : List (List ℕ) → Run → Run → (Given → Given) → Outside → Type 0
StopsIn words old new more why =
    (start : Run) (g : Given) → old ≡ gave start g → IsStoppedIn words start new (more g) why

-- whether the reader of the output is gone
abbrev pub is_closed : WriteFault → Bool
is_closed Closed = true
is_closed Refused = false

abbrev pub is_quiet : Outside → Bool
is_quiet (Unwritten why) = is_closed why
is_quiet _ = false

-- What stopped a run that makes no files leaves this of it: the file of one of these names, or standard
-- input, which has none, was refused; or what a file holds is wrong, and this is true.
abbrev pub LeavesFiles : Type 0 → List (Option (List ℕ)) → Outside → Run → Run → Type 0
LeavesFiles truth names (Unread why) before after =
    (name : Option (List ℕ)) × Contains names name × IsRefused before after name why
LeavesFiles truth names (Unwritten why) before after = after ≡ with_cut before why
LeavesFiles truth names (Unmade why is_partial) before after = ⊥
LeavesFiles truth names Wrong before after = truth × (after ≡ before)
LeavesFiles truth names Untraced before after = after ≡ before
LeavesFiles truth names NoMemory before after = after ≡ before

-- It was reported, and nothing else was done; or the reader of the output is gone, and nothing was.
abbrev pub IsReported : Outside → Run → Run → Type 0
IsReported why before after = MatchBool (is_quiet why) (after ≡ before) (IsSaid before after)
