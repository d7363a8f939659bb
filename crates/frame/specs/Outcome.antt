-- How a run ends.
use Rattle.frame.specs.Given.{Given, IsPart, gave, nothing}
use Rattle.frame.specs.{Outsides.IsReported, Outsides.LeavesBy, declared.outside.Outside.Outside}
use Rattle.std.specs.Prelude.{◌≡◌, ◌⊎◌, ℕ, List}
use Rattle.world.specs.Run.{Load, Run, with_flushed}

-- What is asked for: what is right with this status, what may have been given of it when something
-- stops the run, and what this leaves of the run after that.
pub record Rule : Type 1 where
  pub Right : Given → ℕ → Type 0
  pub Partial : Given → Type 0
  pub Leaves : Given → Outside → Run → Run → Type 0

-- Only files were loaded; or this is a part of what is right.
abbrev pub IsPartial : (Given → ℕ → Type 0) → Given → Type 0
IsPartial Right part = (part ≡ record nothing { loads = part.loads })
    ⊎ ((whole : Given) × (status : ℕ) × Right whole status × IsPart part whole)

-- What is asked for is this, of files that these words name. What was loaded is wrong if this holds.
abbrev pub rule_of : (Given → ℕ → Type 0) → (List Load → Type 0) → List (List ℕ) → Rule
rule_of right wrong words = record {
  Right = right;
  Partial = IsPartial right;
  Leaves = λ part. LeavesBy (wrong part.loads) words;
}

-- All that is asked for was done, and nothing else.
pub record IsDone (rule : Rule) (old new : Run) (status : ℕ) : Type 0 where
  pub given : Given
  pub right : rule.Right given status
  pub all : new ≡ with_flushed (gave old given)

-- Something stopped the run after a part of what is asked for.
pub record IsHalted (rule : Rule) (old new : Run) (why : Outside) : Type 0 where
  pub part : Given
  pub partial : rule.Partial part
  pub leaves : rule.Leaves part why (gave old part) new

-- It was reported, and the run failed.
pub record IsStopped (rule : Rule) (old new : Run) (status : ℕ) : Type 0 where
  pub why : Outside
  pub before : Run
  pub halted : IsHalted rule old before why
  pub reported : IsReported why before new
  pub failed : status ≡ 1

-- THE outcome of a run.
abbrev pub Ends : Rule → Run → Run → ℕ → Type 0
Ends rule old new status = IsDone rule old new status ⊎ IsStopped rule old new status
