-- What a drawer keeps, after each of its steps.
use Rattle.std.proofs.Common.{◌≡◌, ℕ, ◌+◌, ◌<◌, ◌≤◌, ◌^◌, [], ◌∷◌, ◌++◌, length, refl, sym, ap, ◌∙◌}
use Rattle.std.proofs.Common.{subst, arith, length-append}
use mathlib.Core.Logic.{dite}
use native.Mathlib.Decide.{ℕ_discrete}
use Rattle.atomic_table.specs.Table.{Me, Step}
use Rattle.shared_books.specs.declared.drawing.rule.DrawerState.{DrawerState}
use Rattle.shared_books.specs.Drawing.{NoneTwice, AllBelow}
use Rattle.shared_books.specs.inside.DrawerStates.{drawer_state, left_drawer_state}
use Rattle.shared_books.specs.inside.DrawerStates.{both_drawer_states, HasLooked, IsHeld}
use Rattle.shared_books.proofs.Numbers.{times-append, times-same, times-other, few}

abbrev Seat : Type 0
Seat = Me (Unit {0}) DrawerState

-- no drawer holds more numbers than it has seen drawn
pub held_few : (held seen : ℕ) (me : Seat) → IsHeld held seen me
    → (held ≤ seen) × (seen ≤ me.0.numbers) × (me.0.numbers < 2 ^ 32)
held_few held seen me h = let e = few me.0.seen me.0.drawn h.below h.none_twice in
    (omega (arith, h.held_is, h.seen_is), omega (arith, h.seen_is, h.within), h.small)

-- a number more, which is above all that it had
pub held_won : (held seen : ℕ) (me after : Seat) → IsHeld held seen me → seen < me.0.numbers
    → after ≡ (drawer_state me.0.claims me.0.numbers (seen + 1) (me.0.drawn ++ seen ∷ []), me.1)
    → IsHeld (held + 1) (seen + 1) after
held_won held seen me after h more e =
    subst (λ (m : Seat). IsHeld (held + 1) (seen + 1) m) (sym e) record {
      unjoined = refl;
      carries = h.carries;
      seen_is = refl;
      held_is = (let k = length-append me.0.drawn (seen ∷ []) in omega (arith, h.held_is));
      none_twice = λ x.
          (let a = times-append x me.0.drawn (seen ∷ []) in let before = h.none_twice x in
          dite (ℕ_discrete seen x)
          (λ e. let o = times-same x seen e in let z = h.below x (omega (arith, h.seen_is)) in
          omega arith)
          (λ ne. let o = times-other x seen ne in omega arith));
      below = λ x le.
          (let a = times-append x me.0.drawn (seen ∷ []) in let o =
          times-other x seen (λ e. omega arith) in let z = h.below x (omega (arith, h.seen_is)) in
          omega arith);
      within = omega arith;
      small = h.small;
    }

-- nothing more, and more was seen drawn
pub held_lost : (held seen found : ℕ) (me after : Seat) → IsHeld held seen me → seen ≤ found
    → found ≤ me.0.numbers → after ≡ (drawer_state me.0.claims me.0.numbers found me.0.drawn, me.1)
    → IsHeld held found after
held_lost held seen found me after h later within e =
    subst (λ (m : Seat). IsHeld held found m) (sym e) record {
      unjoined = refl;
      carries = h.carries;
      seen_is = refl;
      held_is = h.held_is;
      none_twice = h.none_twice;
      below = λ x le. h.below x (omega (arith, h.seen_is));
      within = within;
      small = h.small;
    }

-- the numbers of both, once a look has shown that none is twice
pub held_met : (held more seen other found : ℕ) (me them met after : Seat) (st : Step (Unit {0}))
    → IsHeld held seen me → IsHeld more other them → met ≡ (both_drawer_states me.0 them.0, me.1)
    → HasLooked st met found after
    → IsHeld (held + more) found after
held_met held more seen other found me them met after st h k e looked =
    let is : after.0 ≡ drawer_state (me.0.claims + them.0.claims) me.0.numbers found
    (me.0.drawn ++ them.0.drawn) =
    looked.seen ∙ ap (λ m. drawer_state m.0.claims m.0.numbers found m.0.drawn) e in
    record {
      unjoined = ap (λ v. v.unjoined) is;
      carries = looked.carries ∙ (ap (λ m. m.1) e ∙ h.carries);
      seen_is = sym (ap (λ v. v.seen) is);
      held_is =
          (let l : length after.0.drawn ≡ length (me.0.drawn ++ them.0.drawn) =
          ap (λ v. length v.drawn) is in let a = length-append me.0.drawn them.0.drawn in
          omega (arith, h.held_is, k.held_is));
      none_twice = subst (λ xs. NoneTwice xs) (ap (λ v. v.drawn) (sym looked.seen))
          looked.none_twice;
      below = let P : DrawerState → Type 0 = λ v. AllBelow v.seen v.drawn in
          subst P (sym looked.seen) looked.below;
      within = (let m = ap (λ m. m.0.numbers) e in let w = looked.within in let s =
          ap (λ (v : DrawerState). v.seen) is in let n = ap (λ (v : DrawerState). v.numbers) is in
          omega arith);
      small = (let n = ap (λ (v : DrawerState). v.numbers) is in omega (arith, h.small));
    }

-- what it keeps after a split
pub held_left : (held seen : ℕ) (me after : Seat) → IsHeld held seen me
    → after ≡ (left_drawer_state me.0, me.1) → IsHeld held seen after
held_left held seen me after h e = subst (λ (m : Seat). IsHeld held seen m) (sym e) record {
  unjoined = refl;
  carries = h.carries;
  seen_is = h.seen_is;
  held_is = h.held_is;
  none_twice = h.none_twice;
  below = h.below;
  within = h.within;
  small = h.small;
}
