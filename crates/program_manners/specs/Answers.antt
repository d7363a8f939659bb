-- What a run leaves that does no more than answer its words.
use Rattle.std.specs.Prelude.{◌≡◌, ◌⊎◌, ℕ, List}
use Rattle.world.specs.{Run.Run, Run.with_flushed, Run.with_written, Writes.IsSaid}

-- a text was written and flushed, and nothing else was done
abbrev pub IsPrinted : Run → Run → Type 0
IsPrinted old new = (text : List ℕ) × (new ≡ with_flushed (with_written old text))

-- something was said, with status 2, or 1 if an allocation failed, and nothing else was done
abbrev pub IsRejected : Run → Run → ℕ → Type 0
IsRejected old new status = ((status ≡ 2) ⊎ (status ≡ 1)) × IsSaid old new
