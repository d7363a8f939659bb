-- A pass that splits and passes that join keep the rule of the turn.
use Rattle.std.proofs.Common.{◌≡◌, ℕ, ◌+◌, ◌*◌, ◌^◌, ◌≤◌, ◌≢◌, true, false, List, [], ◌∷◌, ◌++◌}
use Rattle.std.proofs.Common.{length, set, get_or, refl, sym, ap, ◌∙◌, subst, arith, ⊎_elim}
use Rattle.std.proofs.Common.{lt_of_not-le, true≢false}
use Rattle.atomic_table.proofs.Lists.{at_set, at_snoc, set_else, at_longer}
use Rattle.atomic_table.specs.Table.{keeps, Allows, Splits, Joins}
use Rattle.shared_books.proofs.{Changed.sum_set, Changed.sum_part, ClaimSteps.claims_split}
use Rattle.shared_books.proofs.{ClaimSteps.claims_join, MarkLists.visits-others}
use Rattle.shared_books.proofs.MarkLists.{length-visits, made_at-others, made_at-merged}
use Rattle.shared_books.proofs.MarkLists.{begins_merged, begins_either, begins_shorter}
use Rattle.shared_books.proofs.OneView.{S, acts, word_of, turn_set, seen_set}
use Rattle.shared_books.specs.Machine.{Machine, start, after}
use Rattle.shared_books.specs.Marks.{visits_of, made_at, Apart, Begins, joined_marks}
use Rattle.shared_books.specs.PassStates.{pass_state}
use Rattle.shared_books.specs.Turns.{makers, FitsMachine, IsSpentPass, ShowsMachine, IsTurn}
use Rattle.shared_books.specs.declared.turns.rule.{Mark.Mark, Opening.Opening, PassState.PassState}
use Rattle.shared_books.specs.inside.Steps.{Seat, spent_pass_state, new_pass_state, left_pass_state}
use Rattle.shared_books.specs.inside.Steps.{both_pass_states, HasEndedJoin}
use Rattle.std.proofs.lemmas.List.{set-get_or, Sums.sum_by-append}
use lib.ListN.{get_elem?}
use mathlib.Core.Logic.{dite}
use mathlib.Core.Option.{some, some-injective}
use native.Mathlib.Decide.{dec_le}

-- a new pass
pub parts : (k : Opening) (id : ℕ) (v : PassState) → v.unjoined ≡ true
    → Splits (IsTurn k) id v (left_pass_state v) (new_pass_state v)
parts k id v unjoined s r at =
    let m : Machine = after (start k.first) r.events in
    let sh = r.shows in
    let l = left_pass_state v in
    let w = new_pass_state v in
    let f = sh.each id v at unjoined in
    let nothing : (i : ℕ) → made_at i w.marks ≡ 0 = λ i. made_at-others i (visits_of v.marks) in
    let sum : (i : ℕ) → makers i (set s.views id l ++ w ∷ []) ≡ makers i s.views = λ i. (
    let t = sum_set (λ u. made_at i u.marks + made_at i u.met) s.views id v l at in
    let e = sum_by-append (λ u. made_at i u.marks + made_at i u.met) (set s.views id l) (w ∷ []) in
    let z = nothing i in
    omega arith) in
    let old : FitsMachine k m id l =
    record { opened = f.opened; seen = f.seen; met = f.met; turn = f.turn } in
    let new : (j : ℕ) → FitsMachine k m j w =
    λ j. record {
      opened = f.opened;
      seen =
          subst (λ vs. Begins vs m.visits) (sym (visits-others (visits_of v.marks))) f.seen;
      met =
          (m.visits, refl);
      turn = λ on. absurd (true≢false (sym on));
    } in
    record {
      events = r.events;
      schedule = r.schedule;
      shows = record {
        one_word = sh.one_word;
        one_slot = sh.one_slot;
        most = sh.most;
        count = sh.count;
        free = sh.free;
        held = λ seat e. (
            let p = sh.held seat e in
            let q = turn_set s.views id v l seat at refl refl p.2 in
            (p.0, p.1, (q.0, at_longer (set s.views id l) (w ∷ []) seat q.0 q.1, q.2, q.3)));
        legal = sh.legal;
        each = λ j u e alive. ⊎_elim
            (λ (here : get_elem? (set s.views id l) j ≡ some u). ⊎_elim
            (λ (t : (j ≡ id) × (l ≡ u)). subst (λ (z : PassState). FitsMachine k m j z) t.1
            (subst (λ i. FitsMachine k m i l) (sym t.0) old))
            (λ (t : (j ≢ id) × (get_elem? s.views j ≡ some u)). sh.each j u t.1 alive)
            (at_set s.views id j l u here))
            (λ (t : w ≡ u). subst (λ (z : PassState). FitsMachine k m j z) t (new j))
            (at_snoc (set s.views id l) w u j e);
        once = λ i lt. sum i ∙ sh.once i lt;
        no_other = λ i ge. sum i ∙ sh.no_other i ge;
        claims = claims_split (λ u. u.claims) IsSpentPass s.views id v l w at refl refl
            (acts v unjoined) sh.claims;
      };
    }

-- one pass takes over what another has
pub meets : (k : Opening) (id : ℕ) (v : PassState) (other : ℕ) (u : PassState) → v.unjoined ≡ true
    → u.unjoined ≡ true → v.met ≡ [] → u.met ≡ [] → u.turn ≡ false
    → Joins (IsTurn k) id v other u (both_pass_states v u) spent_pass_state
meets k id v other u unjoined lives met met_too off s r at apart there =
    let m : Machine = after (start k.first) r.events in
    let sh = r.shows in
    let w = both_pass_states v u in
    let was : get_elem? s.views other ≡ some u = sym (set_else s.views id other w apart) ∙ there in
    let f = sh.each id v at unjoined in
    let g = sh.each other u was lives in
    let sum : (i : ℕ) → makers i (set (set s.views id w) other spent_pass_state)
    ≡ makers i s.views = λ i. (
    let first = sum_set (λ z. made_at i z.marks + made_at i z.met) s.views id v w at in
    let second = sum_set (λ z. made_at i z.marks + made_at i z.met) (set s.views id w) other u
    spent_pass_state there in
    let mine = ap (λ ms. made_at i ms) met in
    let theirs = ap (λ ms. made_at i ms) met_too in
    omega arith) in
    let fits : FitsMachine k m id w =
    record { opened = f.opened; seen = f.seen; met = g.seen; turn = f.turn } in
    record {
      events = r.events;
      schedule = r.schedule;
      shows = record {
        one_word = sh.one_word;
        one_slot = sh.one_slot;
        most = sh.most;
        count = sh.count;
        free = sh.free;
        held = λ seat e. (
            let p = sh.held seat e in
            let q = turn_set s.views id v w seat at refl refl p.2 in
            let not_other : seat ≢ other =
            λ same. true≢false
            (sym (sym
            (ap (λ z. z.turn)
            (some-injective q.0 u
            (sym q.1 ∙ (ap (λ j. get_elem? (set s.views id w) j) same ∙ there)))) ∙ q.3) ∙ off) in (
              p.0,
              p.1,
              (
                q.0,
                set_else (set s.views id w) other seat spent_pass_state not_other
                    ∙ q.1,
                q.2,
                q.3,
              ),
            ));
        legal = sh.legal;
        each = λ j z e l. ⊎_elim
            (λ (t : (j ≡ other) × (spent_pass_state ≡ z)). absurd
            (true≢false (sym l ∙ ap (λ y. y.unjoined) (sym t.1))))
            (λ (t : (j ≢ other) × (get_elem? (set s.views id w) j ≡ some z)). ⊎_elim
            (λ (q : (j ≡ id) × (w ≡ z)). subst (λ (y : PassState). FitsMachine k m j y) q.1
            (subst (λ i. FitsMachine k m i w) (sym q.0) fits))
            (λ (q : (j ≢ id) × (get_elem? s.views j ≡ some z)). sh.each j z q.1 l)
            (at_set s.views id j w z t.1))
            (at_set (set s.views id w) other j spent_pass_state z e);
        once = λ i lt. sum i ∙ sh.once i lt;
        no_other = λ i ge. sum i ∙ sh.no_other i ge;
        claims = claims_join (λ z. z.claims) IsSpentPass s.views id v other u w spent_pass_state at
            there refl refl (refl, refl, refl) (acts v unjoined) sh.claims;
      };
    }

-- no visit has two makers
apart_of : (k : Opening) (m : Machine) (s : S) (id : ℕ) (v : PassState) → ShowsMachine k m s
    → get_elem? s.views id ≡ some v → Apart v.marks v.met
apart_of k m s id v r at i =
    let part = sum_part (λ u. made_at i u.marks + made_at i u.met) s.views id v at in
    dite (dec_le (length m.visits) i)
    (λ ge. (let z = r.no_other i ge in omega arith))
    (λ lt. (let o = r.once i (lt_of_not-le lt) in omega arith))

-- the look that ends a join
pub settles : (k : Opening) (slots id : ℕ) (me : Seat) → me.0.unjoined ≡ true → me.0.turn ≡ false
    → Allows (IsTurn k) slots id me 0 (λ n. n) (λ _ w. HasEndedJoin me w)
settles k slots id me unjoined off s r count at fits =
    let m : Machine = after (start k.first) r.events in
    let v : PassState = me.0 in
    let sh = r.shows in
    let f = sh.each id v at unjoined in
    let apart = apart_of k m s id v sh at in
    let marks : List Mark = joined_marks v.marks v.met in
    let seen = begins_merged v.marks v.met m.visits f.seen f.met in
    let w = pass_state v.opened v.claims v.turn marks [] in (
      w,
      keeps,
      tt,
      record {
        events = r.events;
        schedule = r.schedule;
        shows = subst
            (λ ws. ShowsMachine k m record
            { words = ws; homes = s.homes; views = set s.views id w })
            (sym (set-get_or s.words 0 0))
            (seen_set k m s id v marks [] sh at unjoined seen (m.visits, refl)
            (λ on. absurd (true≢false (sym on ∙ off)))
            (λ i. (let e = made_at-merged i v.marks v.met apart in omega arith)));
      },
      record {
        state_is = refl;
        apart = apart;
        begins = begins_either (visits_of v.marks) (visits_of v.met) m.visits f.seen f.met;
        small = (
            let c = sh.count in
            let first : v.opened.first ≡ k.first = ap (λ o. o.first) f.opened in
            let size = length-visits marks in
            let shorter = begins_shorter (visits_of marks) m.visits seen in
            let most = sh.most in
            let word = ⊎_elim (λ t. few_free (get_or s.words 0 0) m.count t.1 most)
            (λ t. few_held (get_or s.words 0 0) m.count t.2 most) (word_of k m s sh) in
            omega arith);
        carries = refl;
      },
    )
  where
    few_free : (n c : ℕ) → n ≡ 2 * c → n ≤ 2 ^ 63 → c ≤ 2 ^ 62
    few_free n c e le = omega arith

    few_held : (n c : ℕ) → n ≡ 2 * c + 1 → n ≤ 2 ^ 63 → c ≤ 2 ^ 62
    few_held n c e le = omega arith
