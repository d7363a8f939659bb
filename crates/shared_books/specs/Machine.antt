-- The turn machine of one shard's book: at most one seat holds the turn, and gives it back with a
-- visit.
use Rattle.std.specs.Prelude.{◌≡◌, ℕ, ◌+◌, List, [], ◌∷◌, ◌++◌}
use mathlib.Core.Option.{Option, none, some}
use Rattle.histories.specs.declared.entry.Entry.{Entry}

-- the count of visits, the seat that holds the turn, and the visits so far
pub record Machine : Type 0 where
  pub count : ℕ
  pub holder : Option ℕ
  pub visits : List (List Entry)

-- a seat takes the turn; a seat gives it back with a visit
pub data Event : Type 0 where
  taken : ℕ → Event
  given : ℕ → List Entry → Event

-- nobody has the turn, and there are no visits yet
abbrev pub start : ℕ → Machine
start first = record { count = first; holder = none; visits = [] }

-- whether the event may come: who takes finds no holder, who gives is the holder
abbrev pub May : Machine → Event → Type 0
May m (taken seat) = m.holder ≡ none
May m (given seat visit) = m.holder ≡ some seat

-- after a turn was taken, or given back with its visit
abbrev pub next : Machine → Event → Machine
next m (taken seat) = record { count = m.count; holder = some seat; visits = m.visits }
next m (given seat visit) =
    record { count = m.count + 1; holder = none; visits = m.visits ++ visit ∷ [] }

-- after all these events
abbrev pub after : Machine → List Event → Machine
after m [] = m
after m (e ∷ es) = after (next m e) es

-- a schedule: each event may come after those before it
abbrev pub IsSchedule : Machine → List Event → Type 0
IsSchedule m [] = Unit {0}
IsSchedule m (e ∷ es) = May m e × IsSchedule (next m e) es
