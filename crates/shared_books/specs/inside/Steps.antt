-- What the steps of a turn do to the views of the passes.
use Rattle.atomic_table.specs.Table.{Step, Me}
use Rattle.histories.specs.{History.IsLegal, declared.entry.Entry.Entry}
use Rattle.shared_books.specs.{Claims.claims_given, Claims.claims_left, Marks.mark, Marks.others}
use Rattle.shared_books.specs.Marks.{visits_of, history_of_visits, joined_marks, Apart, Begins}
use Rattle.shared_books.specs.{PassStates.pass_state, Turns.Boxed, Turns.book_after}
use Rattle.shared_books.specs.declared.turns.rule.{Mark.Mark, Opening.Opening, PassState.PassState}
use Rattle.shared_books.specs.inside.NoBook.{no_book}
use Rattle.std.specs.Prelude.{◌≡◌, ◌≢◌, ℕ, ◌+◌, ◌*◌, ◌^◌, ◌≤◌, true, false, List, [], ◌∷◌, ◌++◌}
use Rattle.std.specs.Prelude.{length, drop, ◌⊎◌, Option, Some, None}

-- a seat at the table of turns
abbrev pub Seat : Type 0
Seat = Me (Option Boxed) PassState

-- what is left of a pass that was joined into another
abbrev pub spent_pass_state : PassState
spent_pass_state =
    record {
      unjoined = false;
      opened = record {
        first = 0;
        book = record { marker = record {}; value = no_book };
      };
      claims = 0;
      turn = false;
      marks = [];
      met = [];
    }

-- a new pass has seen as much and half of the claims, and made nothing
abbrev pub new_pass_state : PassState → PassState
new_pass_state v = pass_state v.opened (claims_given v.claims) false (others (visits_of v.marks)) []

-- the old pass keeps the other claims, and what it has seen and made
abbrev pub left_pass_state : PassState → PassState
left_pass_state v = pass_state v.opened (claims_left v.claims) v.turn v.marks v.met

-- the marks of another pass, before a look shows how they lie beside those of this one
abbrev pub both_pass_states : PassState → PassState → PassState
both_pass_states v w = pass_state v.opened (v.claims + w.claims) v.turn v.marks w.marks

-- the turn word found is twice the count of visits seen, and one more if a pass holds the turn
abbrev pub IsTurnWord : ℕ → Opening → List Mark → Type 0
IsTurnWord found o marks =
    (found ≡ 2 * (o.first + length marks)) ⊎ (found ≡ 2 * (o.first + length marks) + 1)

-- a look at the turn word: the pass has seen all visits that are counted
pub record HasSeen (before : Seat) (found : ℕ) (after : Seat) : Type 0 where
  pub between : List (List Entry)
  pub state_is : after.0 ≡ pass_state before.0.opened before.0.claims before.0.turn
      (before.0.marks ++ others between) before.0.met
  pub word : IsTurnWord found before.0.opened (before.0.marks ++ others between)
  pub most : found ≤ 2 ^ 63
  pub legal : IsLegal before.0.opened.book.value.table
      (history_of_visits (visits_of (before.0.marks ++ others between)))
  pub carries : after.1 ≡ before.1

-- the turn was taken: the pass has seen all visits that are counted, and the book of these visits
-- is out with it
pub record HasTakenBook (s : Step (Option Boxed)) (before after : Seat) : Type 0 where
  pub between : List (List Entry)
  pub state_is : after.0 ≡ pass_state before.0.opened before.0.claims true
      (before.0.marks ++ others between) before.0.met
  pub word : s.first ≡ 2 * (before.0.opened.first + length (before.0.marks ++ others between))
  pub legal : IsLegal before.0.opened.book.value.table
      (history_of_visits (visits_of (before.0.marks ++ others between)))
  pub book : Boxed
  pub book_is : book.value ≡ book_after before.0.opened
      (visits_of (before.0.marks ++ others between))
  pub carries : after.1 ≡ (0, Some book) ∷ before.1

-- a try to take the turn
pub record HasTriedTurn (s : Step (Option Boxed)) (before : Seat) (found : ℕ) (after : Seat)
    : Type 0 where
  pub won : found ≡ s.first → HasTakenBook s before after
  pub lost : found ≢ s.first → HasSeen before found after

-- the turn is given back with the book, and the visit is what the book gained
abbrev pub given_back : Seat → Seat
given_back (v, []) = (v, [])
given_back (v, (slot, None) ∷ out) = (v, out)
given_back (v, (slot, Some b) ∷ out) = (
  pass_state v.opened v.claims false
      (v.marks ++ mark true
      (drop (length (history_of_visits (visits_of v.marks))) b.value.entries) ∷ []) v.met,
  out,
)

-- the look that ends a join: the marks of both passes lie beside one another
pub record HasEndedJoin (before after : Seat) : Type 0 where
  pub state_is : after.0 ≡ pass_state before.0.opened before.0.claims before.0.turn
      (joined_marks before.0.marks before.0.met) []
  pub apart : Apart before.0.marks before.0.met
  pub begins : Begins (visits_of before.0.marks) (visits_of before.0.met)
      ⊎ Begins (visits_of before.0.met) (visits_of before.0.marks)
  pub small : before.0.opened.first + length (joined_marks before.0.marks before.0.met) ≤ 2 ^ 62
  pub carries : after.1 ≡ before.1
