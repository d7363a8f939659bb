-- Drawing: the rule under which numbers are drawn. One number says how many are drawn.
use Rattle.atomic_table.specs.Table.{State}
use Rattle.shared_books.specs.{Claims.AreClaims, Drawing.times}
use Rattle.shared_books.specs.declared.drawing.rule.DrawerState.{DrawerState}
use Rattle.std.specs.Prelude.{◌≡◌, ℕ, ◌≤◌, ◌<◌, List, [], length, true, false, sum_by, slice_index}
use lib.ListN.{get_elem?}
use mathlib.Core.Option.{some}

-- how often a number was drawn, by all drawers together
abbrev pub times_drawn : ℕ → List DrawerState → ℕ
times_drawn x states = sum_by (λ h. times x h.drawn) states

-- a drawer that was joined into another holds nothing
abbrev pub IsSpentDrawer : DrawerState → Type 0
IsSpentDrawer h = (h.unjoined ≡ false) × (h.drawn ≡ [])

-- between any two steps: each number below the count of drawn ones was drawn by one drawer and
-- once, no other number was, no drawer has seen more than that count, and no claim is there twice
pub record IsDrawn (numbers : ℕ) (s : State (Unit {0}) DrawerState) : Type 0 where
  pub one_word : length s.words ≡ 1
  pub within : slice_index s.words 0 ≤ numbers
  pub once : (x : ℕ) → x < slice_index s.words 0 → times_drawn x s.views ≡ 1
  pub no_other : (x : ℕ) → slice_index s.words 0 ≤ x → times_drawn x s.views ≡ 0
  pub each : (j : ℕ) (h : DrawerState) → get_elem? s.views j ≡ some h → h.unjoined ≡ true
      → (h.numbers ≡ numbers) × (h.seen ≤ slice_index s.words 0)
  pub claims : AreClaims (λ h. h.claims) IsSpentDrawer s.views
