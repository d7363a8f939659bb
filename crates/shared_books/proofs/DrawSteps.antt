-- Each step of drawing keeps its rule.
use Rattle.std.proofs.Common.{◌≡◌, ℕ, ◌+◌, ◌<◌, ◌≤◌, ◌≢◌, eqb, true, length, List, [], ◌∷◌, ◌++◌}
use Rattle.std.proofs.Common.{set, get_or, refl, sym, ap, ◌∙◌, subst, arith, ⊎_elim, max}
use Rattle.std.proofs.Common.{length-set, get_or-set_same, lt_of_not-le, true≢false}
use Rattle.atomic_table.proofs.Lists.{at_set, at_snoc, set_else, exchanged}
use Rattle.atomic_table.specs.Table.{State, Me, step, keeps, Allows, Splits, Joins, Seen, Final}
use Rattle.shared_books.proofs.Changed.{sum_set, sum_part, sum_only}
use Rattle.shared_books.proofs.ClaimSteps.{claims_set, claims_split, claims_join, claims_most}
use Rattle.shared_books.proofs.ClaimSteps.{others_spent}
use Rattle.shared_books.proofs.Numbers.{times-append, times-same, times-other, as_many}
use Rattle.shared_books.specs.Claims.{all_claims}
use Rattle.shared_books.specs.Drawing.{times, NoneTwice, AllBelow, HasAll}
use Rattle.shared_books.specs.declared.drawing.rule.DrawerState.{DrawerState}
use Rattle.shared_books.specs.inside.DrawerStates.{drawer_state, left_drawer_state}
use Rattle.shared_books.specs.inside.DrawerStates.{new_drawer_state, spent_drawer_state}
use Rattle.shared_books.specs.inside.DrawerStates.{both_drawer_states, HasTried, HasLooked}
use Rattle.shared_books.specs.inside.Drawing.{IsSpentDrawer, times_drawn, IsDrawn}
use Rattle.std.proofs.lemmas.List.{set-get_or, Sums.sum_by-append}
use lib.ListN.{get_elem?}
use mathlib.Core.Logic.{dite}
use mathlib.Core.Option.{some, none, some-ne-none, some-injective}
use native.Mathlib.Decide.{ℕ_discrete, dec_le}
use prog.Atomic.{either}

abbrev S : Type 0
S = State (Unit {0}) DrawerState

acts : (h : DrawerState) → h.unjoined ≡ true → IsSpentDrawer h → ⊥
acts h unjoined spent = true≢false (sym unjoined ∙ spent.0)

-- what a drawer drew is below the count of drawn ones, and nothing twice
pub drawn_once : (n : ℕ) (s : S) (j : ℕ) (h : DrawerState) → IsDrawn n s
    → get_elem? s.views j ≡ some h → NoneTwice h.drawn × AllBelow (get_or s.words 0 0) h.drawn
drawn_once n s j h r at = (
  (λ x. let part = sum_part (λ v. times x v.drawn) s.views j h at in
      dite (dec_le (get_or s.words 0 0) x) (λ le. let z = r.no_other x le in omega arith)
      (λ no. let o = r.once x (lt_of_not-le no) in omega arith)),
  (λ x le. let part = sum_part (λ v. times x v.drawn) s.views j h at in let z = r.no_other x le in
      omega arith),
)

-- if one drawer's state changes, and not its numbers
same_drawn : (n : ℕ) (s : S) (j : ℕ) (h : DrawerState) (d : ℕ) → IsDrawn n s
    → get_elem? s.views j ≡ some h → h.unjoined ≡ true → d ≤ get_or s.words 0 0
    → IsDrawn n record {
      words = s.words;
      homes = s.homes;
      views =
          set s.views j (drawer_state h.claims h.numbers d h.drawn);
    }
same_drawn n s j h d r at unjoined le =
    let w = drawer_state h.claims h.numbers d h.drawn in record {
      one_word = r.one_word;
      within = r.within;
      once = λ x lt.
          (let t = sum_set (λ v. times x v.drawn) s.views j h w at in let o = r.once x lt in
          omega arith);
      no_other = λ x ge.
          (let t = sum_set (λ v. times x v.drawn) s.views j h w at in let o = r.no_other x ge in
          omega arith);
      each = λ i v e l.
          ⊎_elim (λ t. subst (λ (u : DrawerState). (u.numbers ≡ n) × (u.seen ≤ get_or s.words 0 0))
          t.1 ((r.each j h at unjoined).0, le)) (λ t. r.each i v t.1 l) (at_set s.views j i w v e);
      claims = claims_set (λ u. u.claims) IsSpentDrawer s.views j h w at refl (acts h unjoined)
          r.claims;
    }

-- the draw that was won
drawn_next : (n : ℕ) (s : S) (j : ℕ) (h : DrawerState) → IsDrawn n s → get_elem? s.views j ≡ some h
    → h.unjoined ≡ true → get_or s.words 0 0 < n
    → IsDrawn n record {
      words = set s.words 0 (get_or s.words 0 0 + 1);
      homes = s.homes;
      views =
          set s.views j
          (drawer_state h.claims h.numbers (get_or s.words 0 0 + 1)
          (h.drawn ++ get_or s.words 0 0 ∷ []));
    }
drawn_next n s j h r at unjoined lt =
    let d : ℕ = get_or s.words 0 0 in
    let w = drawer_state h.claims h.numbers (d + 1) (h.drawn ++ d ∷ []) in
    let word : get_or (set s.words 0 (d + 1)) 0 0 ≡ d + 1 =
    get_or-set_same s.words 0 (d + 1) 0 (let o = r.one_word in omega arith) in
    let count : (x : ℕ) → times_drawn x (set s.views j w) + times x h.drawn
    ≡ times_drawn x s.views + (times x h.drawn + times x (d ∷ [])) =
    λ x. sum_set (λ v. times x v.drawn) s.views j h w at
    ∙ ap (λ k. times_drawn x s.views + k) (times-append x h.drawn (d ∷ [])) in record {
      one_word = length-set s.words 0 (d + 1) ∙ r.one_word;
      within = rw word (omega arith);
      once = λ x less.
          (let c = count x in let below : x < d + 1 = subst (λ (k : ℕ). x < k) word less in
          dite (ℕ_discrete d x)
          (λ e. let z = r.no_other x (omega arith) in let o = times-same x d e in omega arith)
          (λ ne. let z = r.once x (omega (arith, ne)) in let o = times-other x d ne in
          omega arith));
      no_other = λ x ge.
          (let c = count x in let above : d + 1 ≤ x = subst (λ (k : ℕ). k ≤ x) word ge in let z =
          r.no_other x (omega arith) in let o = times-other x d (λ e. omega arith) in omega arith);
      each = λ i v e l.
          ⊎_elim (λ t. subst
          (λ (u : DrawerState). (u.numbers ≡ n) × (u.seen ≤ get_or (set s.words 0 (d + 1)) 0 0)) t.1
          ((r.each j h at unjoined).0, rw word (omega arith)))
          (λ (t : (i ≢ j) × (get_elem? s.views i ≡ some v)). let p = r.each i v t.1 l in
          (p.0, rw word (omega (arith, p.1)))) (at_set s.views j i w v e);
      claims = claims_set (λ u. u.claims) IsSpentDrawer s.views j h w at refl (acts h unjoined)
          r.claims;
    }

-- a try to draw the number that the drawer saw last
pub draws : (n slots id : ℕ) (me : Me (Unit {0}) DrawerState) (old : ℕ) → me.0.unjoined ≡ true
    → me.0.seen ≡ old → old < me.0.numbers
    → Allows (IsDrawn n) slots id me 0 (λ k. either (eqb k old) (old + 1) k)
    (HasTried (step slots 0 old (old + 1) none) me)
draws n slots id me old unjoined seen more s r count at fits =
    let d : ℕ = get_or s.words 0 0 in
    let part = r.each id me.0 at unjoined in
    dite (ℕ_discrete d old)
    (λ e. let w = drawer_state me.0.claims me.0.numbers (d + 1) (me.0.drawn ++ d ∷ []) in (
      w,
      keeps,
      tt,
      subst (λ k. IsDrawn n record
          { words = set s.words 0 k; homes = s.homes; views = set s.views id w })
          (exchange_won d old e) (drawn_next n s id me.0 r at unjoined (omega arith)),
      record {
        won = λ _. refl;
        lost = λ ne. absurd (ne e);
        later = omega arith;
        within =
            omega arith;
        carries = refl;
      },
    ))
    (λ ne. let w = drawer_state me.0.claims me.0.numbers d me.0.drawn in (
      w,
      keeps,
      tt,
      subst (λ ws. IsDrawn n record { words = ws; homes = s.homes; views = set s.views id w })
          (exchange_lost s.words old ne) (same_drawn n s id me.0 d r at unjoined (omega arith)),
      record {
        won = λ e. absurd (ne e);
        lost = λ _. refl;
        later = part.1;
        within =
            omega (arith, r.within, part.0);
        carries = refl;
      },
    ))
  where
    exchange_won : (d old : ℕ) → d ≡ old → d + 1 ≡ either (eqb d old) (old + 1) d
    exchange_won d old e =
        exchanged d old (old + 1) (λ k. d + 1 ≡ k) (λ _. ap (λ k. k + 1) e) (λ ne. absurd (ne e))

    exchange_lost : (ws : List ℕ) (old : ℕ) → get_or ws 0 0 ≢ old
        → ws ≡ set ws 0 (either (eqb (get_or ws 0 0) old) (old + 1) (get_or ws 0 0))
    exchange_lost ws old ne =
        exchanged (get_or ws 0 0) old (old + 1) (λ k. ws ≡ set ws 0 k) (λ e. absurd (ne e))
        (λ _. sym (set-get_or ws 0 0))

-- a look at the count of drawn numbers
pub looks : (n slots id : ℕ) (me : Me (Unit {0}) DrawerState) → me.0.unjoined ≡ true
    → Allows (IsDrawn n) slots id me 0 (λ k. k) (HasLooked (step slots 0 0 0 none) me)
looks n slots id me unjoined s r count at fits =
    let d : ℕ = get_or s.words 0 0 in
    let part = r.each id me.0 at unjoined in
    let once = drawn_once n s id me.0 r at in
    let w = drawer_state me.0.claims me.0.numbers d me.0.drawn in (
      w,
      keeps,
      tt,
      subst (λ ws. IsDrawn n record { words = ws; homes = s.homes; views = set s.views id w })
          (sym (set-get_or s.words 0 0)) (same_drawn n s id me.0 d r at unjoined (omega arith)),
      record {
        seen = refl;
        later = part.1;
        within = omega (arith, r.within, part.0);
        none_twice =
            once.0;
        below = once.1;
        carries = refl;
      },
    )

-- a new drawer, which drew nothing
pub parts : (n id : ℕ) (h : DrawerState) → h.unjoined ≡ true
    → Splits (IsDrawn n) id h (left_drawer_state h) (new_drawer_state h)
parts n id h unjoined s r at =
    let l = left_drawer_state h in
    let w = new_drawer_state h in
    let sum : (x : ℕ) → times_drawn x (set s.views id l ++ w ∷ []) ≡ times_drawn x s.views = λ x. (
    let t = sum_set (λ v. times x v.drawn) s.views id h l at in
    let e = sum_by-append (λ v. times x v.drawn) (set s.views id l) (w ∷ []) in
    omega arith) in record {
      one_word = r.one_word;
      within = r.within;
      once = λ x lt. sum x ∙ r.once x lt;
      no_other = λ x ge. sum x ∙ r.no_other x ge;
      each = λ j v e live_too. ⊎_elim
          (λ t. ⊎_elim
          (λ u. subst (λ (z : DrawerState). (z.numbers ≡ n) × (z.seen ≤ get_or s.words 0 0)) u.1
          (r.each id h at unjoined))
          (λ u. r.each j v u.1 live_too)
          (at_set s.views id j l v t))
          (λ t. subst (λ (u : DrawerState). (u.numbers ≡ n) × (u.seen ≤ get_or s.words 0 0)) t
          (r.each id h at unjoined))
          (at_snoc (set s.views id l) w v j e);
      claims = claims_split (λ u. u.claims) IsSpentDrawer s.views id h l w at refl refl
          (acts h unjoined) r.claims;
    }

-- one drawer takes over what another holds
pub meets : (n id : ℕ) (h : DrawerState) (other : ℕ) (k : DrawerState) → h.unjoined ≡ true
    → k.unjoined ≡ true → Joins (IsDrawn n) id h other k (both_drawer_states h k) spent_drawer_state
meets n id h other k unjoined lives s r at apart there =
    let b = both_drawer_states h k in
    let was : get_elem? s.views other ≡ some k = sym (set_else s.views id other b apart) ∙ there in
    let one = r.each id h at unjoined in
    let two = r.each other k was lives in
    let sum : (x : ℕ) → times_drawn x (set (set s.views id b) other spent_drawer_state)
    ≡ times_drawn x s.views = λ x. (
    let first = sum_set (λ v. times x v.drawn) s.views id h b at in
    let second = sum_set (λ v. times x v.drawn) (set s.views id b) other k spent_drawer_state
    there in
    let added = times-append x h.drawn k.drawn in
    omega arith) in record {
      one_word = r.one_word;
      within = r.within;
      once = λ x lt. sum x ∙ r.once x lt;
      no_other = λ x ge. sum x ∙ r.no_other x ge;
      each = λ j v e l. ⊎_elim
          (λ t. absurd (true≢false (sym l ∙ ap (λ u. u.unjoined) (sym t.1))))
          (λ t. ⊎_elim
          (λ u. subst (λ (z : DrawerState). (z.numbers ≡ n) × (z.seen ≤ get_or s.words 0 0)) u.1
          (one.0, least one.1 two.1))
          (λ u. r.each j v u.1 l)
          (at_set s.views id j b v t.1))
          (at_set (set s.views id b) other j spent_drawer_state v e);
      claims = claims_join (λ u. u.claims) IsSpentDrawer s.views id h other k b spent_drawer_state
          at there refl refl (refl, refl) (acts h unjoined) r.claims;
    }
  where
    least : {a b c : ℕ} → a ≤ c → b ≤ c → max a b ≤ c
    least p q = omega arith

-- who has all claims drew all that was drawn
drew_all : (n : ℕ) (s : S) (j : ℕ) (h : DrawerState) → IsDrawn n s → get_elem? s.views j ≡ some h
    → all_claims ≤ h.claims → HasAll (get_or s.words 0 0) h.drawn
drew_all n s j h r at whole x lt =
    let nothing : (i : ℕ) (k : DrawerState) → i ≢ j → get_elem? s.views i ≡ some k
    → times x k.drawn ≡ 0 =
    λ i k ne there. ap (λ xs. times x xs)
    (others_spent (λ u. u.claims) IsSpentDrawer s.views j h at whole r.claims i k ne there).1 in
    sym (sum_only (λ v. times x v.drawn) s.views j h at nothing) ∙ r.once x lt

-- what the closing shows of a drawer
pub ends : (n id : ℕ) (h : DrawerState) (ws : List ℕ) (xs : List (Unit {0})) (count : ℕ)
    → Final (Seen (IsDrawn n) id h) ws xs → get_elem? ws 0 ≡ some count → h.unjoined ≡ true
    → (h.seen ≤ count) × (count ≤ n) × (h.numbers ≡ n) × AllBelow count h.drawn × NoneTwice h.drawn
    × (h.claims ≤ all_claims) × (all_claims ≤ h.claims → count ≤ length h.drawn)
ends n id h ws xs count f at unjoined =
    let s = f.0 in
    let r = f.1.0 in
    let words : s.words ≡ ws = f.2 in
    let here : get_or s.words 0 0 ≡ count = ap (λ us. get_or us 0 0) words ∙ first ws count at in
    let each = r.each id h f.1.1 unjoined in
    let once = drawn_once n s id h r f.1.1 in
    let below : AllBelow count h.drawn = subst (λ k. AllBelow k h.drawn) here once.1 in (
      subst (λ k. h.seen ≤ k) here each.1,
      subst (λ k. k ≤ n) here r.within,
      each.0,
      below,
      once.0,
      claims_most (λ u. u.claims) IsSpentDrawer s.views id h f.1.1 r.claims,
      λ whole. as_many count h.drawn below
          (subst (λ k. HasAll k h.drawn) here (drew_all n s id h r f.1.1 whole)),
    )
  where
    first : (us : List ℕ) (k : ℕ) → get_elem? us 0 ≡ some k → get_or us 0 0 ≡ k
    first [] k e = absurd (some-ne-none k (sym e))
    first (u ∷ us) k e = some-injective u k e
