-- What contracts see of a shared book and of the passes to it.
use Rattle.atomic_table.specs.Seated.{TableId}
use Rattle.histories.specs.{History.IsLegal, declared.entry.Entry.Entry}
use Rattle.shard_book.specs.Book.{Book}
use Rattle.shared_books.specs.Claims.{all_claims, claims_given, claims_left}
use Rattle.shared_books.specs.Marks.{mark, others, visits_of, history_of_visits, made_from}
use Rattle.shared_books.specs.Marks.{numbered, joined_marks, Apart, Begins}
use Rattle.shared_books.specs.declared.turns.rule.Mark.{Mark}
use Rattle.std.specs.Prelude.{◌≡◌, ℕ, ◌+◌, ◌≤◌, ◌<◌, ◌^◌, ◌⊎◌, true, List, [], ◌∷◌, ◌++◌, length}
use Rattle.tariffs.specs.Fares.{Fares}

-- a shared book: which one it is, the number of its first visit, and the table, shard and shards
-- that it was opened with. They never change
pub record SharedBookView : Type 0 where
  pub home : TableId
  pub first : ℕ
  pub table : Fares
  pub shard : ℕ
  pub shards : ℕ

-- a pass: the book that it belongs to, its claims, and the visits that it has seen, each marked
-- with whether it made it
pub record PassView : Type 0 where
  pub book : SharedBookView
  pub claims : ℕ
  pub marks : List Mark

-- the visits that a pass has seen
abbrev pub seen_by : PassView → List (List Entry)
seen_by pass = visits_of pass.marks

-- the visits that a pass made, each with its number
abbrev pub made_by : PassView → List (ℕ × List Entry)
made_by pass = made_from pass.book.first pass.marks

-- a pass that has seen nothing and has all claims
abbrev pub new_pass : SharedBookView → PassView
new_pass book = record { book = book; claims = all_claims; marks = [] }

-- a pass that has seen as much and gets half of the claims, and made nothing
abbrev pub fresh_pass : PassView → PassView
fresh_pass pass =
    record {
      book = pass.book;
      claims = claims_given pass.claims;
      marks = others (seen_by pass);
    }

-- the pass that such a one was split off keeps the other claims, and all that it has seen and made
abbrev pub left_pass : PassView → PassView
left_pass pass =
    record { book = pass.book; claims = claims_left pass.claims; marks = pass.marks }

-- the book after these visits
abbrev pub book_of : SharedBookView → List (List Entry) → Book
book_of o visits =
    record {
      table = o.table;
      shard = o.shard;
      shards = o.shards;
      entries = history_of_visits visits;
    }

-- the pass has seen visits of others more, and the history that it has seen is legal
pub record HasSeenMore (old new : PassView) : Type 0 where
  pub between : List (List Entry)
  pub book : new.book ≡ old.book
  pub claims : new.claims ≡ old.claims
  pub marks : new.marks ≡ old.marks ++ others between
  pub made : made_by new ≡ made_by old
  pub legal : IsLegal new.book.table (history_of_visits (seen_by new))

-- the pass made a visit, which is at its number: before it are all visits that the pass had
-- seen, and then others', and the history with it is legal
pub record Visits (old new : PassView) (number : ℕ) (visit : List Entry) : Type 0 where
  pub between : List (List Entry)
  pub book : new.book ≡ old.book
  pub claims : new.claims ≡ old.claims
  pub marks : new.marks ≡ (old.marks ++ others between) ++ mark true visit ∷ []
  pub number_is : number ≡ old.book.first + length (seen_by old ++ between)
  pub few : number < 2 ^ 62
  pub made : made_by new ≡ made_by old ++ (number, visit) ∷ []
  pub legal : IsLegal new.book.table (history_of_visits (seen_by new))

-- the book has as many visits as are counted
pub record IsFull (pass : PassView) : Type 0 where
  pub count : pass.book.first + length (seen_by pass) ≡ 2 ^ 62

-- one pass has what two had: what they had seen begins one with the other, and no visit was made by
-- both
pub record IsJoined (old other new : PassView) : Type 0 where
  pub book : new.book ≡ old.book
  pub claims : new.claims ≡ old.claims + other.claims
  pub marks : new.marks ≡ joined_marks old.marks other.marks
  pub held : length (made_by new) ≡ length (made_by old) + length (made_by other)
  pub apart : Apart old.marks other.marks
  pub begins : Begins (seen_by old) (seen_by other) ⊎ Begins (seen_by other) (seen_by old)

-- the pass made all visits to the book that is handed back
pub record HasMadeAll (pass : PassView) (closed : Book) : Type 0 where
  pub made : made_by pass ≡ numbered pass.book.first (seen_by pass)
  pub book : closed ≡ book_of pass.book (seen_by pass)

-- the pass made fewer visits than were taken
pub record LacksVisits (pass : PassView) (held kept : ℕ) : Type 0 where
  pub made : held ≡ length (made_by pass)
  pub fewer : held < kept
  pub seen : length (seen_by pass) ≤ kept
