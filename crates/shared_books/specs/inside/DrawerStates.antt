-- What the steps of drawing do to the states of the drawers.
use Rattle.atomic_table.specs.Table.{Step, Me}
use Rattle.shared_books.specs.{Claims.claims_given, Claims.claims_left, Drawing.NoneTwice}
use Rattle.shared_books.specs.{Drawing.AllBelow, declared.drawing.rule.DrawerState.DrawerState}
use Rattle.std.specs.Prelude.{◌≡◌, ◌≢◌, ℕ, ◌+◌, ◌^◌, ◌≤◌, ◌<◌, true, false, List, [], ◌∷◌, ◌++◌}
use Rattle.std.specs.Prelude.{length, max}

-- what a drawer knows until it is joined into another
abbrev pub drawer_state : ℕ → ℕ → ℕ → List ℕ → DrawerState
drawer_state c n d xs = record { unjoined = true; claims = c; numbers = n; seen = d; drawn = xs }

-- what it knows before it has drawn
abbrev pub empty_drawer_state : ℕ → ℕ → ℕ → DrawerState
empty_drawer_state c n d = drawer_state c n d []

-- the two drawers after a split: the old one keeps what it drew
abbrev pub left_drawer_state : DrawerState → DrawerState
left_drawer_state h = drawer_state (claims_left h.claims) h.numbers h.seen h.drawn

-- what a drawer that was split off knows
abbrev pub new_drawer_state : DrawerState → DrawerState
new_drawer_state h = empty_drawer_state (claims_given h.claims) h.numbers h.seen

-- what is left of a drawer that was joined into another
abbrev pub spent_drawer_state : DrawerState
spent_drawer_state = record { unjoined = false; claims = 0; numbers = 0; seen = 0; drawn = [] }

-- what two drawers know together
abbrev pub both_drawer_states : DrawerState → DrawerState → DrawerState
both_drawer_states h k =
    drawer_state (h.claims + k.claims) h.numbers (max h.seen k.seen) (h.drawn ++ k.drawn)

-- a try from s.first to the next number: it drew that number, or it has seen that more were drawn
pub record HasTried (s : Step (Unit {0})) (before : Me (Unit {0}) DrawerState) (found : ℕ)
    (after : Me (Unit {0}) DrawerState) : Type 0 where
  pub won : found ≡ s.first
      → after.0 ≡ drawer_state before.0.claims before.0.numbers (found + 1)
      (before.0.drawn ++ found ∷ [])
  pub lost : found ≢ s.first
      → after.0 ≡ drawer_state before.0.claims before.0.numbers found before.0.drawn
  pub later : before.0.seen ≤ found
  pub within : found ≤ before.0.numbers
  pub carries : after.1 ≡ before.1

-- a look at the count of drawn numbers: what the drawer drew is below it, and nothing twice
pub record HasLooked (s : Step (Unit {0})) (before : Me (Unit {0}) DrawerState) (found : ℕ)
    (after : Me (Unit {0}) DrawerState) : Type 0 where
  pub seen : after.0 ≡ drawer_state before.0.claims before.0.numbers found before.0.drawn
  pub later : before.0.seen ≤ found
  pub within : found ≤ before.0.numbers
  pub none_twice : NoneTwice before.0.drawn
  pub below : AllBelow found before.0.drawn
  pub carries : after.1 ≡ before.1

-- what a drawer keeps of its number of numbers, the count that it saw, and its seat
pub record IsHeld (held seen : ℕ) (me : Me (Unit {0}) DrawerState) : Type 0 where
  pub unjoined : me.0.unjoined ≡ true
  pub carries : me.1 ≡ []
  pub seen_is : seen ≡ me.0.seen
  pub held_is : held ≡ length me.0.drawn
  pub none_twice : NoneTwice me.0.drawn
  pub below : AllBelow me.0.seen me.0.drawn
  pub within : me.0.seen ≤ me.0.numbers
  pub small : me.0.numbers < 2 ^ 32
