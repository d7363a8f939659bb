-- What turn word, slot and views show of the turn machine, between any two steps.
use Rattle.atomic_table.specs.Table.{State}
use Rattle.histories.specs.{History.IsLegal, declared.entry.Entry.Entry}
use Rattle.shared_books.specs.Machine.{Machine, Event, taken, given, start, after, IsSchedule}
use Rattle.shared_books.specs.Marks.{mark, others, visits_of, history_of_visits, Begins}
use Rattle.shared_books.specs.PassStates.{pass_state}
use Rattle.shared_books.specs.Turns.{Boxed, book_after, HasBook, HoldsTurn, IsTurn}
use Rattle.shared_books.specs.declared.turns.rule.{Opening.Opening, PassState.PassState}
use Rattle.std.specs.Prelude.{◌≡◌, ℕ, ◌+◌, ◌*◌, ◌^◌, ◌<◌, List, [], ◌∷◌, ◌++◌, length, slice_index}
use Rattle.std.specs.Prelude.{slice_set, Option, Some, true, false}
use lib.ListN.{get_elem?}
use mathlib.Core.Option.{some, none}

-- the turn word is even: `count` visits are counted, nobody has the turn, and the book of all
-- visits is in the slot
pub record ShowsFree (k : Opening) (m : Machine) (s : State (Option Boxed) PassState) (count : ℕ)
    : Type 0 where
  pub count_is : m.count ≡ count
  pub no_holder : m.holder ≡ none
  pub no_turn : (seat : ℕ) → HoldsTurn s seat → ⊥
  pub book : HasBook k m.visits s

-- the turn word is odd: one seat has the turn and no other, and the slot is that seat's alone
pub record ShowsHeld (m : Machine) (s : State (Option Boxed) PassState) (count : ℕ) : Type 0 where
  pub seat : ℕ
  pub count_is : m.count ≡ count
  pub holder : m.holder ≡ some seat
  pub turn : HoldsTurn s seat
  pub alone : (other : ℕ) → HoldsTurn s other → other ≡ seat
  pub empty : get_elem? s.homes 0 ≡ some none

-- turn word, slot and views show this state of the machine; each pass has seen a prefix of its
-- visits, and their history is legal
pub record IsShown (k : Opening) (m : Machine) (s : State (Option Boxed) PassState) : Type 0 where
  pub even : (n : ℕ) → slice_index s.words 0 ≡ 2 * n → ShowsFree k m s n
  pub odd : (n : ℕ) → slice_index s.words 0 ≡ 2 * n + 1 → ShowsHeld m s n
  pub count : m.count ≡ k.first + length m.visits
  pub seen : (seat : ℕ) (v : PassState) → get_elem? s.views seat ≡ some v → v.unjoined ≡ true
      → Begins (visits_of v.marks) m.visits
  pub legal : IsLegal k.book.value.table (history_of_visits m.visits)

-- the state is one that a schedule of takes and gives reaches
pub record IsReached (k : Opening) (s : State (Option Boxed) PassState) : Type 0 where
  pub events : List Event
  pub schedule : IsSchedule (start k.first) events
  pub shown : IsShown k (after (start k.first) events) s

-- the law of the rule
abbrev pub StepsAreEvents : Type 0
StepsAreEvents = (k : Opening) (s : State (Option Boxed) PassState) → IsTurn k s → IsReached k s

-- the state after a seat took the turn: the turn word is one more, the slot is empty, and the seat
-- has seen the visits between
abbrev pub taken_by : State (Option Boxed) PassState → ℕ → PassState → List (List Entry)
    → State (Option Boxed) PassState
taken_by s seat v between = record {
  words = slice_set s.words 0 (slice_index s.words 0 + 1);
  homes = slice_set s.homes 0 none;
  views = slice_set s.views seat
      (pass_state v.opened v.claims true (v.marks ++ others between) v.met);
}

-- the state after a seat gave the turn back with a visit: the turn word is one more, and the book
-- is in the slot
abbrev pub given_back_by : State (Option Boxed) PassState → ℕ → PassState → List Entry → Boxed
    → State (Option Boxed) PassState
given_back_by s seat v visit book = record {
  words = slice_set s.words 0 (slice_index s.words 0 + 1);
  homes = slice_set s.homes 0 (some (Some book));
  views = slice_set s.views seat
      (pass_state v.opened v.claims false (v.marks ++ mark true visit ∷ []) v.met);
}

-- a take at an even turn word is the event of its seat
abbrev pub TakesAreEvents : Type 0
TakesAreEvents =
    (k : Opening) (s : State (Option Boxed) PassState) (seat : ℕ) (v : PassState) (t : IsTurn k s)
    → get_elem? s.views seat ≡ some v → v.unjoined ≡ true
    → (n : ℕ) → slice_index s.words 0 ≡ 2 * n → n < 2 ^ 62
    → (between : List (List Entry)) × (u : IsTurn k (taken_by s seat v between))
    × (u.events ≡ t.events ++ taken seat ∷ [])

-- a give by the seat that has the turn, of the book that gained a visit, is the event of that seat
-- and visit
abbrev pub GivesAreEvents : Type 0
GivesAreEvents =
    (k : Opening) (s : State (Option Boxed) PassState) (seat : ℕ) (v : PassState) (t : IsTurn k s)
    → get_elem? s.views seat ≡ some v → v.unjoined ≡ true → v.turn ≡ true
    → (visit : List Entry) (book : Boxed)
    → book.value ≡ book_after k (visits_of v.marks ++ visit ∷ [])
    → IsLegal k.book.value.table (history_of_visits (visits_of v.marks ++ visit ∷ []))
    → (u : IsTurn k (given_back_by s seat v visit book))
    × (u.events ≡ t.events ++ given seat visit ∷ [])
