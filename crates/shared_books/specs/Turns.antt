-- The rule of a shared book: between any two steps, turn word, slot and all views show a state of
-- the turn machine.
use Rattle.atomic_table.specs.Table.{State}
use Rattle.histories.specs.{History.IsLegal, declared.entry.Entry.Entry}
use Rattle.shard_book.specs.Book.{Book}
use Rattle.shared_books.specs.Claims.{AreClaims}
use Rattle.shared_books.specs.Machine.{Machine, Event, start, after, IsSchedule}
use Rattle.shared_books.specs.Marks.{visits_of, history_of_visits, made_at, Begins}
use Rattle.shared_books.specs.declared.turns.rule.{Opening.Opening, PassState.PassState}
use Rattle.std.specs.Prelude.{◌≡◌, ℕ, ◌+◌, ◌*◌, ◌^◌, ◌<◌, ◌≤◌, true, false, List, [], length}
use Rattle.std.specs.Prelude.{slice_index, sum_by, Option, Some}
use Rattle.std.specs.declared.{alloc.Global.Global, boxed.Box.Box}
use lib.ListN.{get_elem?}
use mathlib.Core.Option.{none, some}

-- a book on the heap, as it lies in the slot
abbrev pub Boxed : Type 0
Boxed = Box Book Global

-- the opened book after these visits
abbrev pub book_after : Opening → List (List Entry) → Book
book_after k visits =
    record {
      table = k.book.value.table;
      shard = k.book.value.shard;
      shards = k.book.value.shards;
      entries = history_of_visits visits;
    }

-- how many of all passes made the visit at place i
abbrev pub makers : ℕ → List PassState → ℕ
makers i views = sum_by (λ v. made_at i v.marks + made_at i v.met) views

-- a seat's view fits the machine: what it has seen begins the visits, and who has the turn is the
-- holder and has seen them all
pub record FitsMachine (k : Opening) (m : Machine) (seat : ℕ) (v : PassState) : Type 0 where
  pub opened : v.opened ≡ k
  pub seen : Begins (visits_of v.marks) m.visits
  pub met : Begins (visits_of v.met) m.visits
  pub turn : v.turn ≡ true → (m.holder ≡ some seat) × (visits_of v.marks ≡ m.visits)

-- the slot is at home with the book of these visits
abbrev pub HasBook : Opening → List (List Entry) → State (Option Boxed) PassState → Type 0
HasBook k visits s =
    (b : Boxed) × (get_elem? s.homes 0 ≡ some (some (Some b))) × (b.value ≡ book_after k visits)

-- the seat's view is of a pass that was not joined into another, and has the turn
abbrev pub HoldsTurn : State (Option Boxed) PassState → ℕ → Type 0
HoldsTurn s seat =
    (v : PassState) × (get_elem? s.views seat ≡ some v) × (v.unjoined ≡ true) × (v.turn ≡ true)

-- a pass that was joined into another has nothing
abbrev pub IsSpentPass : PassState → Type 0
IsSpentPass v = (v.unjoined ≡ false) × (v.marks ≡ []) × (v.met ≡ [])

-- turn word, slot and views show this state of the machine, and no claim is there twice
pub record ShowsMachine (k : Opening) (m : Machine) (s : State (Option Boxed) PassState)
    : Type 0 where
  pub one_word : length s.words ≡ 1
  pub one_slot : length s.homes ≡ 1
  pub most : slice_index s.words 0 ≤ 2 ^ 63
  pub count : m.count ≡ k.first + length m.visits
  pub free : m.holder ≡ none → (slice_index s.words 0 ≡ 2 * m.count) × HasBook k m.visits s
  pub held : (seat : ℕ) → m.holder ≡ some seat → (slice_index s.words 0 ≡ 2 * m.count + 1)
      × (get_elem? s.homes 0 ≡ some none) × HoldsTurn s seat
  pub legal : IsLegal k.book.value.table (history_of_visits m.visits)
  pub each : (seat : ℕ) (v : PassState) → get_elem? s.views seat ≡ some v → v.unjoined ≡ true
      → FitsMachine k m seat v
  pub once : (i : ℕ) → i < length m.visits → makers i s.views ≡ 1
  pub no_other : (i : ℕ) → length m.visits ≤ i → makers i s.views ≡ 0
  pub claims : AreClaims (λ v. v.claims) IsSpentPass s.views

-- what is shown is a state that some schedule of takes and gives reaches
pub record IsTurn (k : Opening) (s : State (Option Boxed) PassState) : Type 0 where
  pub events : List Event
  pub schedule : IsSchedule (start k.first) events
  pub shows : ShowsMachine k (after (start k.first) events) s
