-- Drawing: the uploads are numbered 0, 1, 2, .., and each is drawn once.
use Rattle.std.specs.Prelude.{◌≡◌, ℕ, ◌+◌, ◌≤◌, ◌<◌, ◌==◌, List, ◌++◌, count_by}
use Rattle.atomic_table.specs.Seated.{TableId}

-- how often a number is in a list
abbrev pub times : ℕ → List ℕ → ℕ
times x xs = count_by (λ y. y == x) xs

-- no number is there twice
abbrev pub NoneTwice : List ℕ → Type 0
NoneTwice xs = (x : ℕ) → times x xs ≤ 1

-- each number is below k
abbrev pub AllBelow : ℕ → List ℕ → Type 0
AllBelow k xs = (x : ℕ) → k ≤ x → times x xs ≡ 0

-- each number below k is there, once
abbrev pub HasAll : ℕ → List ℕ → Type 0
HasAll k xs = (x : ℕ) → x < k → times x xs ≡ 1

-- what contracts see of a drawing: which one it is, and how many numbers it has
pub record Drawing : Type 0 where
  pub home : TableId
  pub numbers : ℕ

-- what contracts see of a drawer: the drawing that it belongs to, its claims, how many numbers it
-- has seen drawn, and those that it drew
pub record DrawerView : Type 0 where
  pub drawn_from : Drawing
  pub claims : ℕ
  pub seen : ℕ
  pub drawn : List ℕ

-- a drawer that took over what another one holds: no number is there twice, so the two had none in
-- common
pub record IsJoinedDrawer (old other new : DrawerView) : Type 0 where
  pub drawn_from : new.drawn_from ≡ old.drawn_from
  pub claims : new.claims ≡ old.claims + other.claims
  pub drawn : new.drawn ≡ old.drawn ++ other.drawn
  pub apart : NoneTwice new.drawn
  pub later : old.seen ≤ new.seen
  pub later_too : other.seen ≤ new.seen

-- what the closing says of the count of drawn numbers: it is above each number that the drawer
-- holds, and not less than any count that it has seen
pub record IsCount (count : ℕ) (drawer : DrawerView) : Type 0 where
  pub later : drawer.seen ≤ count
  pub within : count ≤ drawer.drawn_from.numbers
  pub below : AllBelow count drawer.drawn
