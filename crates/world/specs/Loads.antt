-- What a load leaves that is refused.
use Rattle.std.specs.Prelude.{◌≡◌, ◌<◌, ℕ, List, Option, length}
use Rattle.world.specs.Run.{Run, with_too_long, with_unread}
use Rattle.world.specs.declared.faults.LoadFault.{LoadFault}
use Rattle.world.specs.declared.faults.LoadFault.TheVariants.{Unread, TooLong, NoMemory}

-- Reads under this name gave more bytes than the limit, and nothing else was done.
pub record IsTooLong (old new : Run) (name : Option (List ℕ)) : Type 0 where
  pub front : List ℕ
  pub longer : 67108864 < length front
  pub stopped : new ≡ with_too_long old (record { name = name; bytes = front })

-- The name could not be opened or read, or what it names is too long, or an allocation failed.
-- Nothing else was done.
abbrev pub IsRefused : Run → Run → Option (List ℕ) → LoadFault → Type 0
IsRefused old new name Unread = new ≡ with_unread old name
IsRefused old new name TooLong = IsTooLong old new name
IsRefused old new name NoMemory = new ≡ old
