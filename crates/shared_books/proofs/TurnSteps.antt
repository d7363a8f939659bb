-- A look at the turn word, the turn that is taken, and the turn that is given back keep its rule.
use Rattle.std.proofs.Common.{◌≡◌, ℕ, ◌+◌, ◌*◌, ◌^◌, ◌<◌, ◌≢◌, eqb, true, false, List, [], ◌∷◌}
use Rattle.std.proofs.Common.{◌++◌, length, set, get_or, drop, refl, sym, ap, ◌∙◌, subst, arith}
use Rattle.std.proofs.Common.{inl, inr, ⊎_elim, Some, length-set, length-append, get_or-set_same}
use Rattle.std.proofs.Common.{append_assoc, append-nil, true≢false}
use Rattle.atomic_table.proofs.Lists.{at_set, set_here, exchanged}
use Rattle.atomic_table.specs.Table.{step, keeps, takes, gives, Allows}
use Rattle.histories.specs.{History.IsLegal, declared.entry.Entry.Entry}
use Rattle.shared_books.proofs.Changed.{sum_set, at_less}
use Rattle.shared_books.proofs.{ClaimSteps.claims_set, MarkLists.visits-append}
use Rattle.shared_books.proofs.MarkLists.{length-visits, joined-snoc, drop_all, made_at-caught}
use Rattle.shared_books.proofs.MarkLists.{made_at-here, made_at-else, made_at-beyond}
use Rattle.shared_books.proofs.OneView.{S, acts, schedule_snoc, after-snoc, word_of, seen_set}
use Rattle.shared_books.proofs.OneView.{caught_up, begins_itself}
use Rattle.shared_books.specs.Machine.{Machine, taken, given, start, next, after}
use Rattle.shared_books.specs.Marks.{mark, others, visits_of, history_of_visits, made_at, Begins}
use Rattle.shared_books.specs.{PassStates.pass_state, Turns.Boxed, Turns.book_after}
use Rattle.shared_books.specs.Turns.{makers, FitsMachine, IsSpentPass, ShowsMachine, IsTurn}
use Rattle.shared_books.specs.declared.turns.rule.{Mark.Mark, Opening.Opening, PassState.PassState}
use Rattle.shared_books.specs.inside.Steps.{Seat, HasSeen, HasTriedTurn, given_back}
use Rattle.std.proofs.lemmas.List.{set-get_or}
use lib.ListN.{get_elem?}
use mathlib.Core.Logic.{dite}
use mathlib.Core.Option.{some, none, some-ne-none, some-injective}
use native.Mathlib.Decide.{ℕ_discrete}
use prog.Atomic.{either}

-- a look at the turn word
pub looks : (k : Opening) (slots id : ℕ) (me : Seat) → me.0.unjoined ≡ true
    → Allows (IsTurn k) slots id me 0 (λ n. n) (λ n w. HasSeen me n w)
looks k slots id me unjoined s r count at fits =
    let m : Machine = after (start k.first) r.events in
    let v : PassState = me.0 in
    let sh = r.shows in
    let f = sh.each id v at unjoined in
    let c = caught_up k m s id v sh f in
    let marks : List Mark = v.marks ++ others c.more in
    let w = pass_state v.opened v.claims v.turn marks v.met in (
      w,
      keeps,
      tt,
      record {
        events = r.events;
        schedule = r.schedule;
        shows = subst
            (λ ws. ShowsMachine k m record
            { words = ws; homes = s.homes; views = set s.views id w })
            (sym (set-get_or s.words 0 0))
            (seen_set k m s id v marks v.met sh at unjoined
            (subst (λ vs. Begins (visits_of marks) vs) c.all (begins_itself (visits_of marks)))
            f.met (λ _. c.all)
            (λ i. ap (λ n. n + made_at i v.met) (made_at-caught i v.marks c.more)));
      },
      record {
        between = c.more;
        state_is = refl;
        word = ⊎_elim (λ t. inl (t.1 ∙ ap (λ n. 2 * n) (sym c.number)))
            (λ t. inr (t.2 ∙ ap (λ n. 2 * n + 1) (sym c.number))) (word_of k m s sh);
        most = sh.most;
        legal = c.legal;
        carries = refl;
      },
    )

-- the turn is taken
pub took : (k : Opening) (m : Machine) (s : S) (id : ℕ) (v : PassState) (marks : List Mark)
    → ShowsMachine k m s → get_elem? s.views id ≡ some v → v.unjoined ≡ true → m.holder ≡ none
    → visits_of marks ≡ m.visits → get_or s.words 0 0 < 2 ^ 63
    → ((i : ℕ) → made_at i marks ≡ made_at i v.marks)
    → ShowsMachine k (next m (taken id)) record {
      words = set s.words 0 (get_or s.words 0 0 + 1);
      homes = set s.homes 0 none;
      views =
          set s.views id (pass_state v.opened v.claims true marks v.met);
    }
took k m s id v marks r at unjoined nobody_has all few counts =
    let w = pass_state v.opened v.claims true marks v.met in
    let f = r.each id v at unjoined in
    let free = r.free nobody_has in
    let word : get_or (set s.words 0 (get_or s.words 0 0 + 1)) 0 0 ≡ 2 * m.count + 1 =
    get_or-set_same s.words 0 _ 0 (let o = r.one_word in omega arith) ∙ ap (λ n. n + 1) free.0 in
    let same : (i : ℕ) → makers i (set s.views id w) ≡ makers i s.views =
    λ i. (let t = sum_set (λ u. made_at i u.marks + made_at i u.met) s.views id v w at in let c =
    counts i in omega arith) in
    record {
      one_word = length-set s.words 0 _ ∙ r.one_word;
      one_slot = length-set s.homes 0 none ∙ r.one_slot;
      most = (let f = free.0 in omega arith);
      count = r.count;
      free = λ e. absurd (some-ne-none id e);
      held = λ seat e. (let same_seat : id ≡ seat = some-injective id seat e in (
        word,
        set_here s.homes 0 none (let o = r.one_slot in omega arith),
        (
          w,
          subst (λ j. get_elem? (set s.views id w) j ≡ some w) same_seat
              (set_here s.views id w (at_less s.views id v at)),
          refl,
          refl,
        ),
      ));
      legal = r.legal;
      each = λ j u e l. ⊎_elim
          (λ (t : (j ≡ id) × (w ≡ u)). subst
          (λ (z : PassState). FitsMachine k (next m (taken id)) j z) t.1 record {
            opened = f.opened;
            seen = ([], sym all ∙ sym (append-nil (visits_of marks)));
            met =
                f.met;
            turn = λ _. (ap some (sym t.0), all);
          })
          (λ (t : (j ≢ id) × (get_elem? s.views j ≡ some u)). let g = r.each j u t.1 l in
          record {
            opened = g.opened;
            seen = g.seen;
            met = g.met;
            turn =
                λ on. absurd (some-ne-none j (sym (g.turn on).0 ∙ nobody_has));
          })
          (at_set s.views id j w u e);
      once = λ i lt. same i ∙ r.once i lt;
      no_other = λ i ge. same i ∙ r.no_other i ge;
      claims = claims_set (λ u. u.claims) IsSpentPass s.views id v w at refl (acts v unjoined)
          r.claims;
    }

-- a try to take the turn, at an even turn word
pub takes_turn : (k : Opening) (slots id : ℕ) (me : Seat) (old half : ℕ) → me.0.unjoined ≡ true
    → me.0.turn ≡ false → old ≡ 2 * half → old < 2 ^ 63
    → Allows (IsTurn k) slots id me 0 (λ n. either (eqb n old) (old + 1) n)
    (HasTriedTurn (step slots 0 old (old + 1) none) me)
takes_turn k slots id me old half unjoined off even few s r count at fits =
    dite (ℕ_discrete (get_or s.words 0 0) old)
    (λ e.
    let m : Machine = after (start k.first) r.events in
    let v : PassState = me.0 in
    let sh = r.shows in
    let f = sh.each id v at unjoined in
    let c = caught_up k m s id v sh f in
    let marks : List Mark = v.marks ++ others c.more in
    let nobody_has : m.holder ≡ none =
    ⊎_elim (λ t. t.0) (λ t. let odd = t.2 in absurd (omega arith)) (word_of k m s sh) in
    let free = sh.free nobody_has in
    let w = pass_state v.opened v.claims true marks v.met in
    let b = free.1.0 in
    let value : b.value ≡ book_after v.opened (visits_of marks) =
    free.1.2 ∙ (ap (λ vs. book_after k vs) (sym c.all)
    ∙ ap (λ o. book_after o (visits_of marks)) (sym f.opened)) in
    let one : get_or s.words 0 0 + 1
    ≡ either (eqb (get_or s.words 0 0) old) (old + 1) (get_or s.words 0 0) =
    exchanged (get_or s.words 0 0) old (old + 1) (λ n. get_or s.words 0 0 + 1 ≡ n)
    (λ _. ap (λ n. n + 1) e) (λ ne. absurd (ne e)) in (
      w,
      takes 0 (Some b),
      free.1.1,
      record {
        events = r.events ++ taken id ∷ [];
        schedule = schedule_snoc (start k.first) r.events (taken id) r.schedule nobody_has;
        shows = subst
            (λ n. ShowsMachine k (after (start k.first) (r.events ++ taken id ∷ [])) record
            { words = set s.words 0 n; homes = set s.homes 0 none; views = set s.views id w }) one
            (subst (λ n. ShowsMachine k n record {
              words = set s.words 0 (get_or s.words 0 0 + 1);
              homes = set s.homes 0 none;
              views =
                  set s.views id w;
            }) (sym (after-snoc (start k.first) r.events (taken id)))
            (took k m s id v marks sh at unjoined nobody_has c.all (omega arith)
            (λ i. made_at-caught i v.marks c.more)));
      },
      record {
        won = λ _. record {
          between = c.more;
          state_is = refl;
          word =
              sym e ∙ (free.0 ∙ ap (λ n. 2 * n) (sym c.number));
          legal = c.legal;
          book = b;
          book_is =
              value;
          carries = refl;
        };
        lost = λ ne. absurd (ne e);
      },
    ))
    (λ ne.
    let seen = looks k slots id me unjoined s r count at fits in
    let same : get_or s.words 0 0
    ≡ either (eqb (get_or s.words 0 0) old) (old + 1) (get_or s.words 0 0) =
    exchanged (get_or s.words 0 0) old (old + 1) (λ n. get_or s.words 0 0 ≡ n) (λ e. absurd (ne e))
    (λ _. refl) in (
      seen.0,
      seen.1,
      seen.2,
      subst (λ n. IsTurn k (Rattle.atomic_table.specs.Table.stepped s 0 n id me.1 seen.0 seen.1))
          same seen.3,
      record { won = λ e. absurd (ne e); lost = λ _. seen.4 },
    ))

-- the turn is given back with a visit
pub gave : (k : Opening) (m : Machine) (s : S) (id : ℕ) (v : PassState) (visit : List Entry)
    (b : Boxed) → ShowsMachine k m s → get_elem? s.views id ≡ some v → v.unjoined ≡ true
    → m.holder ≡ some id
    → visits_of v.marks ≡ m.visits → m.count < 2 ^ 62
    → b.value ≡ book_after k (m.visits ++ visit ∷ [])
    → IsLegal k.book.value.table (history_of_visits (m.visits ++ visit ∷ []))
    → ShowsMachine k (next m (given id visit)) record {
      words = set s.words 0 (2 * m.count + 2);
      homes = set s.homes 0 (some (Some b));
      views =
          set s.views id
          (pass_state v.opened v.claims false (v.marks ++ mark true visit ∷ []) v.met);
    }
gave k m s id v visit b r at unjoined holds all few book legal =
    let marks : List Mark = v.marks ++ mark true visit ∷ [] in
    let w = pass_state v.opened v.claims false marks v.met in
    let f = r.each id v at unjoined in
    let word : get_or (set s.words 0 (2 * m.count + 2)) 0 0 ≡ 2 * m.count + 2 =
    get_or-set_same s.words 0 _ 0 (let o = r.one_word in omega arith) in
    let longer : length (m.visits ++ visit ∷ []) ≡ length m.visits + 1 =
    length-append m.visits (visit ∷ []) in
    let now : visits_of marks ≡ m.visits ++ visit ∷ [] =
    visits-append v.marks (mark true visit ∷ []) ∙ ap (λ vs. vs ++ visit ∷ []) all in
    let size : length v.marks ≡ length m.visits =
    sym (length-visits v.marks) ∙ ap (λ (vs : List (List Entry)). length vs) all in
    let sum : (i : ℕ) → makers i (set s.views id w) + (made_at i v.marks + made_at i v.met)
    ≡ makers i s.views + (made_at i marks + made_at i v.met) =
    λ i. sum_set (λ u. made_at i u.marks + made_at i u.met) s.views id v w at in
    let longer_begins : (vs : List (List Entry)) → Begins vs m.visits
    → Begins vs (m.visits ++ visit ∷ []) =
    λ vs t. (
      t.0 ++ visit ∷ [],
      ap (λ us. us ++ visit ∷ []) t.1
          ∙ append_assoc vs t.0 (visit ∷ []),
    ) in
    record {
      one_word = length-set s.words 0 _ ∙ r.one_word;
      one_slot = length-set s.homes 0 _ ∙ r.one_slot;
      most = omega arith;
      count = (let c = r.count in omega arith);
      free = λ _. (
        word ∙ (let e : 2 * m.count + 2 ≡ 2 * (m.count + 1) = omega arith in e),
        (b, set_here s.homes 0 _ (let o = r.one_slot in omega arith), book),
      );
      held = λ seat e. absurd (some-ne-none seat (sym e));
      legal = legal;
      each = λ j u e l. ⊎_elim
          (λ (t : (j ≡ id) × (w ≡ u)). subst
          (λ (z : PassState). FitsMachine k (next m (given id visit)) j z) t.1
          record {
            opened = f.opened;
            seen =
                subst (λ vs. Begins (visits_of marks) vs) now (begins_itself (visits_of marks));
            met =
                longer_begins (visits_of v.met) f.met;
            turn = λ on. absurd (true≢false (sym on));
          })
          (λ (t : (j ≢ id) × (get_elem? s.views j ≡ some u)). let g = r.each j u t.1 l in
          record {
            opened = g.opened;
            seen = longer_begins (visits_of u.marks) g.seen;
            met =
                longer_begins (visits_of u.met) g.met;
            turn =
                λ on. absurd (t.0 (some-injective j id (sym (g.turn on).0 ∙ holds)));
          })
          (at_set s.views id j w u e);
      once = λ i lt. dite (ℕ_discrete i (length v.marks))
          (λ e. (let t = sum i in let z = r.no_other i (omega arith) in
          let here : made_at i marks ≡ 1 =
          ap (λ n. made_at n marks) e ∙ made_at-here v.marks visit in let none_yet =
          made_at-beyond i v.marks (omega arith) in omega arith))
          (λ ne. (let t = sum i in let o = r.once i (omega (arith, ne)) in let else_same =
          made_at-else i v.marks visit ne in omega arith));
      no_other = λ i ge.
          (let t = sum i in let z = r.no_other i (omega arith) in let else_same =
          made_at-else i v.marks visit (λ e. omega arith) in omega arith);
      claims = claims_set (λ u. u.claims) IsSpentPass s.views id v w at refl (acts v unjoined)
          r.claims;
    }

pub gives_turn : (k : Opening) (slots id : ℕ) (v : PassState) (b : Boxed) (visit : List Entry)
    (new : ℕ) → v.unjoined ≡ true → v.turn ≡ true → new ≡ 2 * (v.opened.first + length v.marks) + 2
    → v.opened.first + length v.marks < 2 ^ 62
    → b.value ≡ book_after v.opened (visits_of v.marks ++ visit ∷ [])
    → IsLegal v.opened.book.value.table (history_of_visits (visits_of v.marks ++ visit ∷ []))
    → Allows (IsTurn k) slots id (v, (0, Some b) ∷ []) 0 (λ _. new)
    (λ _ after. after ≡ given_back (v, (0, Some b) ∷ []))
gives_turn k slots id v b visit new unjoined on is few book legal s r count at fits =
    let m : Machine = after (start k.first) r.events in
    let sh = r.shows in
    let f = sh.each id v at unjoined in
    let all : visits_of v.marks ≡ m.visits = (f.turn on).1 in
    let size : length v.marks ≡ length m.visits =
    sym (length-visits v.marks) ∙ ap (λ (vs : List (List Entry)). length vs) all in
    let number : v.opened.first + length v.marks ≡ m.count = let c = sh.count in
    let first : v.opened.first ≡ k.first = ap (λ o. o.first) f.opened in omega arith in
    let w = pass_state v.opened v.claims false (v.marks ++ mark true visit ∷ []) v.met in
    let entries : b.value.entries ≡ history_of_visits (visits_of v.marks) ++ visit =
    ap (λ x. x.entries) book ∙ joined-snoc (visits_of v.marks) visit in
    let gained : drop (length (history_of_visits (visits_of v.marks))) b.value.entries ≡ visit =
    ap (λ es. drop (length (history_of_visits (visits_of v.marks))) es) entries
    ∙ drop_all (history_of_visits (visits_of v.marks)) visit in
    let book_now : b.value ≡ book_after k (m.visits ++ visit ∷ []) =
    book ∙ (ap (λ vs. book_after v.opened (vs ++ visit ∷ [])) all
    ∙ ap (λ o. book_after o (m.visits ++ visit ∷ [])) f.opened) in
    let legal_now : IsLegal k.book.value.table (history_of_visits (m.visits ++ visit ∷ [])) =
    subst (λ (o : Opening). IsLegal o.book.value.table (history_of_visits (m.visits ++ visit ∷ [])))
    f.opened (subst (λ vs. IsLegal v.opened.book.value.table (history_of_visits (vs ++ visit ∷ [])))
    all legal) in (
      w,
      gives,
      tt,
      record {
        events = r.events ++ given id visit ∷ [];
        schedule = schedule_snoc (start k.first) r.events (given id visit) r.schedule (f.turn on).0;
        shows = subst
            (λ n. ShowsMachine k (after (start k.first) (r.events ++ given id visit ∷ [])) record {
              words = set s.words 0 n;
              homes = set s.homes 0 (some (Some b));
              views =
                  set s.views id w;
            }) (let e : 2 * m.count + 2 ≡ new = omega arith in e)
            (subst (λ n. ShowsMachine k n record {
              words = set s.words 0 (2 * m.count + 2);
              homes =
                  set s.homes 0 (some (Some b));
              views = set s.views id w;
            })
            (sym (after-snoc (start k.first) r.events (given id visit)))
            (gave k m s id v visit b sh at unjoined (f.turn on).0 all (omega arith) book_now
            legal_now));
      },
      (λ i. (
        pass_state v.opened v.claims false (v.marks ++ mark true (sym gained i) ∷ []) v.met,
        [],
      )),
    )
