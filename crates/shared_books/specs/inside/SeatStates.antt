-- The states of seats: what private functions alone cite.
use Rattle.histories.specs.{History.IsLegal, declared.entry.Entry.Entry}
use Rattle.shard_book.specs.Book.{Book}
use Rattle.shared_books.specs.Marks.{others, visits_of, history_of_visits, made_from}
use Rattle.shared_books.specs.{PassStates.pass_state, Turns.book_after, inside.Steps.Seat}
use Rattle.std.specs.Prelude.{◌≡◌, ℕ, ◌+◌, ◌^◌, ◌<◌, ◌≤◌, true, false, List, [], ◌∷◌, ◌++◌, length}
use Rattle.std.specs.Prelude.{None}

-- a seat of a pass that does not have the turn
pub record IsFree (me : Seat) : Type 0 where
  pub unjoined : me.0.unjoined ≡ true
  pub turn : me.0.turn ≡ false
  pub met : me.0.met ≡ []
  pub carries : me.1 ≡ []

-- the seat has seen visits of others more, and all else is as it was
pub record SeesMore (before after : Seat) : Type 0 where
  pub between : List (List Entry)
  pub state_is : after.0 ≡ pass_state before.0.opened before.0.claims before.0.turn
      (before.0.marks ++ others between) before.0.met
  pub carries : after.1 ≡ before.1

-- the seat has the turn, the number of its visit, and the book of all visits so far, whose slot is
-- empty
pub record HasBookOut (before after : Seat) (number : ℕ) (book : Book) : Type 0 where
  pub between : List (List Entry)
  pub state_is : after.0 ≡ pass_state before.0.opened before.0.claims true
      (before.0.marks ++ others between) []
  pub number_is : number ≡ before.0.opened.first + length (before.0.marks ++ others between)
  pub few : number < 2 ^ 62
  pub legal : IsLegal before.0.opened.book.value.table
      (history_of_visits (visits_of (before.0.marks ++ others between)))
  pub book_is : book ≡ book_after before.0.opened (visits_of (before.0.marks ++ others between))
  pub carries : after.1 ≡ (0, None) ∷ []

-- all visits are counted that a book takes
pub record FindsFull (before after : Seat) : Type 0 where
  pub goes_on : SeesMore before after
  pub legal : IsLegal after.0.opened.book.value.table (history_of_visits (visits_of after.0.marks))
  pub count : after.0.opened.first + length after.0.marks ≡ 2 ^ 62

-- the book has gained a visit, and the history with it is legal
pub record BringsVisit (me : Seat) (number : ℕ) (book : Book) : Type 0 where
  pub visit : List Entry
  pub unjoined : me.0.unjoined ≡ true
  pub turn : me.0.turn ≡ true
  pub carries : me.1 ≡ (0, None) ∷ []
  pub number_is : number ≡ me.0.opened.first + length me.0.marks
  pub few : number < 2 ^ 62
  pub legal : IsLegal me.0.opened.book.value.table
      (history_of_visits (visits_of me.0.marks ++ visit ∷ []))
  pub book_is : book ≡ book_after me.0.opened (visits_of me.0.marks ++ visit ∷ [])

-- what a pass keeps of the number of visits that it made, and its seat
pub record IsPass (held : ℕ) (me : Seat) : Type 0 where
  pub free : IsFree me
  pub held_is : held ≡ length (made_from me.0.opened.first me.0.marks)
  pub small : me.0.opened.first + length me.0.marks ≤ 2 ^ 62
