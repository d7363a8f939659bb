-- The machine of a turn, as a table shows it, if one view of it changes.
use Rattle.std.proofs.Common.{◌≡◌, ℕ, ◌+◌, ◌*◌, ◌≢◌, ◌⊎◌, true, List, [], ◌∷◌, ◌++◌, length, set}
use Rattle.std.proofs.Common.{get_or, refl, sym, ap, ◌∙◌, subst, arith, inl, inr, ⊎_elim, Option}
use Rattle.std.proofs.Common.{append-nil, true≢false}
use Rattle.atomic_table.proofs.Lists.{at_set, set_here, set_else}
use Rattle.atomic_table.specs.Table.{State}
use Rattle.histories.specs.{History.IsLegal, declared.entry.Entry.Entry}
use Rattle.shared_books.proofs.{Changed.sum_set, Changed.at_less, ClaimSteps.claims_set}
use Rattle.shared_books.proofs.MarkLists.{visits-caught, length-visits}
use Rattle.shared_books.specs.Machine.{Machine, Event, May, next, after, IsSchedule}
use Rattle.shared_books.specs.Marks.{others, visits_of, history_of_visits, made_at, Begins}
use Rattle.shared_books.specs.PassStates.{pass_state}
use Rattle.shared_books.specs.Turns.{Boxed, makers, FitsMachine, IsSpentPass, ShowsMachine}
use Rattle.shared_books.specs.declared.turns.rule.{Mark.Mark, Opening.Opening, PassState.PassState}
use lib.ListN.{get_elem?}
use mathlib.Core.Logic.{dite}
use mathlib.Core.Option.{Option as Maybe, some, none, some-injective}
use native.Mathlib.Decide.{ℕ_discrete}

-- what a table of one shared book has
abbrev pub S : Type 0
S = State (Option Boxed) PassState

pub acts : (v : PassState) → v.unjoined ≡ true → IsSpentPass v → ⊥
acts v unjoined gone = true≢false (sym unjoined ∙ gone.0)

-- the schedule and the machine, one event longer
pub schedule_snoc : (m : Machine) (es : List Event) (e : Event) → IsSchedule m es
    → May (after m es) e → IsSchedule m (es ++ e ∷ [])
schedule_snoc m [] e s may = (may, tt)
schedule_snoc m (x ∷ es) e s may = (s.0, schedule_snoc (next m x) es e s.1 may)

pub after-snoc : (m : Machine) (es : List Event) (e : Event)
    → after m (es ++ e ∷ []) ≡ next (after m es) e
after-snoc m [] e = refl
after-snoc m (x ∷ es) e = after-snoc (next m x) es e

holder_of : (h : Maybe ℕ) → (h ≡ none) ⊎ ((seat : ℕ) × (h ≡ some seat))
holder_of none = inl refl
holder_of (some seat) = inr (seat, refl)

-- nobody has the turn at an even turn word, and somebody at an odd one
pub word_of : (k : Opening) (m : Machine) (s : S) → ShowsMachine k m s
    → ((m.holder ≡ none) × (get_or s.words 0 0 ≡ 2 * m.count))
    ⊎ ((seat : ℕ) × (m.holder ≡ some seat) × (get_or s.words 0 0 ≡ 2 * m.count + 1))
word_of k m s r = ⊎_elim (λ e. inl (e, (r.free e).0)) (λ t. inr (t.0, t.1, (r.held t.0 t.1).0))
    (holder_of m.holder)

-- whoever has the turn has it still, if the one view that changed kept its own
pub turn_set : (views : List PassState) (id : ℕ) (v w : PassState) (seat : ℕ)
    → get_elem? views id ≡ some v → w.unjoined ≡ true → w.turn ≡ v.turn
    → (u : PassState) × (get_elem? views seat ≡ some u) × (u.unjoined ≡ true) × (u.turn ≡ true)
    → (u : PassState) × (get_elem? (set views id w) seat ≡ some u) × (u.unjoined ≡ true)
    × (u.turn ≡ true)
turn_set views id v w seat at unjoined same t = dite (ℕ_discrete seat id)
    (λ e.
    let here : get_elem? views id ≡ some t.0 = subst (λ j. get_elem? views j ≡ some t.0) e t.1 in
    let one : t.0 ≡ v = some-injective t.0 v (sym here ∙ at) in (
      w,
      subst (λ j. get_elem? (set views id w) j ≡ some w) (sym e)
          (set_here views id w (at_less views id v at)),
      unjoined,
      same
          ∙ (ap (λ z. z.turn) (sym one) ∙ t.3),
    ))
    (λ ne. (t.0, set_else views id seat w ne ∙ t.1, t.2, t.3))

-- if one view changes, and not the visits that it made
pub seen_set : (k : Opening) (m : Machine) (s : S) (id : ℕ) (v : PassState) (marks met : List Mark)
    → ShowsMachine k m s → get_elem? s.views id ≡ some v → v.unjoined ≡ true
    → Begins (visits_of marks) m.visits → Begins (visits_of met) m.visits
    → (v.turn ≡ true → visits_of marks ≡ m.visits)
    → ((i : ℕ) → made_at i marks + made_at i met ≡ made_at i v.marks + made_at i v.met)
    → ShowsMachine k m record {
      words = s.words;
      homes = s.homes;
      views =
          set s.views id (pass_state v.opened v.claims v.turn marks met);
    }
seen_set k m s id v marks met r at unjoined seen other turn counts =
    let w = pass_state v.opened v.claims v.turn marks met in
    let f = r.each id v at unjoined in
    let same : (i : ℕ) → makers i (set s.views id w) ≡ makers i s.views =
    λ i. (let t = sum_set (λ u. made_at i u.marks + made_at i u.met) s.views id v w at in let c =
    counts i in omega arith) in
    let fits : FitsMachine k m id w =
    record { opened = f.opened; seen = seen; met = other; turn = λ on. ((f.turn on).0, turn on) } in
    record {
      one_word = r.one_word;
      one_slot = r.one_slot;
      most = r.most;
      count = r.count;
      free = r.free;
      held = λ seat h.
          (let p = r.held seat h in (p.0, p.1, turn_set s.views id v w seat at refl refl p.2));
      legal = r.legal;
      each = λ j u e l. ⊎_elim
          (λ (t : (j ≡ id) × (w ≡ u)). subst (λ (z : PassState). FitsMachine k m j z) t.1
          (subst (λ i. FitsMachine k m i w) (sym t.0) fits))
          (λ (t : (j ≢ id) × (get_elem? s.views j ≡ some u)). r.each j u t.1 l)
          (at_set s.views id j w u e);
      once = λ i lt. same i ∙ r.once i lt;
      no_other = λ i ge. same i ∙ r.no_other i ge;
      claims = claims_set (λ u. u.claims) IsSpentPass s.views id v w at refl (acts v unjoined)
          r.claims;
    }

-- a pass that has seen what is counted
pub record CaughtUp (k : Opening) (m : Machine) (v : PassState) : Type 0 where
  pub more : List (List Entry)
  pub all : visits_of (v.marks ++ others more) ≡ m.visits
  pub number : v.opened.first + length (v.marks ++ others more) ≡ m.count
  pub legal : IsLegal v.opened.book.value.table
      (history_of_visits (visits_of (v.marks ++ others more)))

pub caught_up : (k : Opening) (m : Machine) (s : S) (id : ℕ) (v : PassState) → ShowsMachine k m s
    → FitsMachine k m id v → CaughtUp k m v
caught_up k m s id v r f =
    let more = f.seen.0 in
    let marks : List Mark = v.marks ++ others more in
    let all : visits_of marks ≡ m.visits = visits-caught v.marks more ∙ sym f.seen.1 in
    let size : length marks ≡ length m.visits =
    sym (length-visits marks) ∙ ap (λ (vs : List (List Entry)). length vs) all in
    let first : v.opened.first ≡ k.first = ap (λ o. o.first) f.opened in
    record {
      more = more;
      all = all;
      number = (let c = r.count in omega arith);
      legal = subst
          (λ (o : Opening). IsLegal o.book.value.table (history_of_visits (visits_of marks)))
          (sym f.opened)
          (subst (λ vs. IsLegal k.book.value.table (history_of_visits vs)) (sym all) r.legal);
    }

pub begins_itself : (vs : List (List Entry)) → Begins vs vs
begins_itself vs = ([], sym (append-nil vs))
