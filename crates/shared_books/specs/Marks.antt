-- What a pass knows of a book: the visits from the first on, each marked with whether the pass made
-- it.
use Rattle.std.specs.Prelude.{◌≡◌, ℕ, zero, suc, ◌+◌, ◌≤◌, Bool, false, cond, ◌||◌, List, [], ◌∷◌}
use Rattle.std.specs.Prelude.{◌++◌, map}
use Rattle.histories.specs.declared.entry.Entry.{Entry}
use Rattle.shared_books.specs.declared.turns.rule.Mark.{Mark}

-- a visit, and whether the pass made it
abbrev pub mark : Bool → List Entry → Mark
mark mine visit = record { mine = mine; visit = visit }

-- visits that others made
abbrev pub others : List (List Entry) → List Mark
others visits = map (mark false) visits

-- the visits that are marked
abbrev pub visits_of : List Mark → List (List Entry)
visits_of marks = map (λ m. m.visit) marks

-- the history that visits make
abbrev pub history_of_visits : List (List Entry) → List Entry
history_of_visits [] = []
history_of_visits (visit ∷ visits) = visit ++ history_of_visits visits

-- the visits that the pass made, each with its number; the first mark has the number n
abbrev pub made_from : ℕ → List Mark → List (ℕ × List Entry)
made_from n [] = []
made_from n (m ∷ ms) = cond m.mine ((n, m.visit) ∷ made_from (n + 1) ms) (made_from (n + 1) ms)

-- visits with their numbers, from n on
abbrev pub numbered : ℕ → List (List Entry) → List (ℕ × List Entry)
numbered n [] = []
numbered n (visit ∷ visits) = (n, visit) ∷ numbered (n + 1) visits

-- how many of the visits at place i the pass made: 1 or 0
abbrev pub made_at : ℕ → List Mark → ℕ
made_at i [] = 0
made_at zero (m ∷ ms) = cond m.mine 1 0
made_at (suc i) (m ∷ ms) = made_at i ms

-- no visit was made by both
abbrev pub Apart : List Mark → List Mark → Type 0
Apart xs ys = (i : ℕ) → made_at i xs + made_at i ys ≤ 1

-- the visits of one begin those of the other
abbrev pub Begins : List (List Entry) → List (List Entry) → Type 0
Begins visits longer = (more : List (List Entry)) × (longer ≡ visits ++ more)

-- the longer list, in which what either made is marked
abbrev pub joined_marks : List Mark → List Mark → List Mark
joined_marks [] ys = ys
joined_marks (x ∷ xs) [] = x ∷ xs
joined_marks (x ∷ xs) (y ∷ ys) = mark (x.mine || y.mine) x.visit ∷ joined_marks xs ys
