-- A state that the rule allows is one that a schedule reaches.
use Rattle.std.proofs.Common.{◌≡◌, ℕ, ◌+◌, ◌*◌, Option, Some, [], ◌∷◌, ◌++◌, refl, false, sym, ◌∙◌}
use Rattle.std.proofs.Common.{arith, ⊎_elim, get_or, set, true, ap, subst}
use Rattle.atomic_table.specs.Table.{State}
use Rattle.histories.specs.History.{IsLegal}
use Rattle.shared_books.proofs.{MarkLists.made_at-caught, OneView.schedule_snoc, OneView.after-snoc}
use Rattle.shared_books.proofs.{OneView.word_of, OneView.caught_up, TurnSteps.took, TurnSteps.gave}
use Rattle.shared_books.specs.Events.{IsShown, StepsAreEvents, TakesAreEvents, GivesAreEvents}
use Rattle.shared_books.specs.{Events.taken_by, Machine.Machine, Machine.taken, Machine.given}
use Rattle.shared_books.specs.{Machine.start, Machine.after, Marks.mark, Marks.others}
use Rattle.shared_books.specs.{Marks.visits_of, Marks.history_of_visits, PassStates.pass_state}
use Rattle.shared_books.specs.Turns.{Boxed, book_after, HoldsTurn, ShowsMachine}
use Rattle.shared_books.specs.declared.turns.rule.{Opening.Opening, PassState.PassState}
use mathlib.Core.Option.{some, none, some-ne-none, some-injective}

-- who has the turn is the holder
holder_is : (k : Opening) (m : Machine) (s : State (Option Boxed) PassState) (seat : ℕ)
    → ShowsMachine k m s → HoldsTurn s seat → m.holder ≡ some seat
holder_is k m s seat r t = ((r.each seat t.0 t.1 t.2).turn t.3).0

shown : (k : Opening) (m : Machine) (s : State (Option Boxed) PassState) → ShowsMachine k m s
    → IsShown k m s
shown k m s r = record {
  even = λ n e. ⊎_elim
      (λ (t : (m.holder ≡ none) × (get_or s.words 0 0 ≡ 2 * m.count)). let w = t.1 in record {
        count_is = omega arith;
        no_holder = t.0;
        no_turn = λ seat h. some-ne-none seat (sym (holder_is k m s seat r h) ∙ t.0);
        book = (r.free t.0).1;
      })
      (λ (t : (seat : ℕ) × (m.holder ≡ some seat) × (get_or s.words 0 0 ≡ 2 * m.count + 1)). let w =
      t.2 in absurd (omega arith))
      (word_of k m s r);
  odd = λ n e. ⊎_elim
      (λ (t : (m.holder ≡ none) × (get_or s.words 0 0 ≡ 2 * m.count)). let w = t.1 in
      absurd (omega arith))
      (λ (t : (seat : ℕ) × (m.holder ≡ some seat) × (get_or s.words 0 0 ≡ 2 * m.count + 1)). let w =
      t.2 in let p = r.held t.0 t.1 in record {
        seat = t.0;
        count_is = omega arith;
        holder = t.1;
        turn = p.2;
        alone = λ other h. some-injective other t.0 (sym (holder_is k m s other r h) ∙ t.1);
        empty = p.1;
      })
      (word_of k m s r);
  count = r.count;
  seen = λ seat v at unjoined. (r.each seat v at unjoined).seen;
  legal = r.legal;
}

pub reached : StepsAreEvents
reached k s t = record {
  events = t.events;
  schedule = t.schedule;
  shown =
      shown k (after (start k.first) t.events) s t.shows;
}

pub takes_are : TakesAreEvents
takes_are k s seat v t at unjoined n even few =
    let m : Machine = after (start k.first) t.events in
    let sh = t.shows in
    let f = sh.each seat v at unjoined in
    let c = caught_up k m s seat v sh f in
    let free : m.holder ≡ none =
    ⊎_elim (λ p. p.0)
    (λ (p : (j : ℕ) × (m.holder ≡ some j) × (get_or s.words 0 0 ≡ 2 * m.count + 1)). let w = p.2 in
    absurd (omega arith)) (word_of k m s sh) in (
      c.more,
      record {
        events = t.events ++ taken seat ∷ [];
        schedule = schedule_snoc (start k.first) t.events (taken seat) t.schedule free;
        shows = subst (λ (x : Machine). ShowsMachine k x (taken_by s seat v c.more))
            (sym (after-snoc (start k.first) t.events (taken seat)))
            (took k m s seat v (v.marks ++ others c.more) sh at unjoined free c.all (omega arith)
            (λ i. made_at-caught i v.marks c.more));
      },
      refl,
    )

pub gives_are : GivesAreEvents
gives_are k s seat v t at unjoined on visit book is legal =
    let m : Machine = after (start k.first) t.events in
    let sh = t.shows in
    let f = sh.each seat v at unjoined in
    let holds = (f.turn on).0 in
    let all : visits_of v.marks ≡ m.visits = (f.turn on).1 in
    let word : get_or s.words 0 0 ≡ 2 * m.count + 1 = (sh.held seat holds).0 in
    let more : 2 * m.count + 2 ≡ get_or s.words 0 0 + 1 = omega arith in
    let most = sh.most in (
      record {
        events = t.events ++ given seat visit ∷ [];
        schedule = schedule_snoc (start k.first) t.events (given seat visit) t.schedule holds;
        shows = subst
            (λ w. ShowsMachine k
            (after (start k.first) (t.events ++ given seat visit ∷ [])) record {
              words = set s.words 0 w;
              homes = set s.homes 0 (some (Some book));
              views =
                  set s.views seat
                  (pass_state v.opened v.claims false (v.marks ++ mark true visit ∷ []) v.met);
            }) more
            (subst (λ (x : Machine). ShowsMachine k x record {
              words = set s.words 0 (2 * m.count + 2);
              homes =
                  set s.homes 0 (some (Some book));
              views =
                  set s.views seat
                  (pass_state v.opened v.claims false (v.marks ++ mark true visit ∷ []) v.met);
            })
            (sym (after-snoc (start k.first) t.events (given seat visit)))
            (gave k m s seat v visit book sh at unjoined holds all (omega arith)
            (is ∙ ap (λ vs. book_after k (vs ++ visit ∷ [])) all)
            (subst (λ vs. IsLegal k.book.value.table (history_of_visits (vs ++ visit ∷ []))) all
            legal)));
      },
      refl,
    )
