-- What the calls of a shared book make of a pass.
use Rattle.std.proofs.Common.{◌≡◌, ℕ, ◌+◌, ◌-◌, ◌*◌, ◌/◌, ◌%◌, ◌^◌, ◌<◌, ◌≤◌, ◌⊎◌, true, false}
use Rattle.std.proofs.Common.{List, [], ◌∷◌, ◌++◌, length, refl, sym, ap, ◌∙◌, subst, arith, ⊎_elim}
use Rattle.std.proofs.Common.{Option, Some, unwrap_or, append_assoc, append-nil, length-append}
use Rattle.std.proofs.Common.{lt_of_not-le}
use Rattle.atomic_table.specs.Seated.{TableId}
use Rattle.histories.specs.{History.IsLegal, declared.entry.Entry.Entry}
use Rattle.shard_book.specs.Book.{Book, with_entries}
use Rattle.shared_books.proofs.MarkLists.{visits-caught, visits-append, visits-others}
use Rattle.shared_books.proofs.MarkLists.{length-visits, others-append, joined-snoc, made-others}
use Rattle.shared_books.proofs.MarkLists.{made-caught, made-snoc, made_few, made_all}
use Rattle.shared_books.proofs.{MarkLists.length-made-merged, TurnEnds.Closes}
use Rattle.shared_books.specs.{Claims.all_claims, Marks.mark, Marks.others}
use Rattle.shared_books.specs.Marks.{visits_of, history_of_visits, made_from, joined_marks, Apart}
use Rattle.shared_books.specs.{PassStates.pass_state, Passes.PassView, Passes.seen_by}
use Rattle.shared_books.specs.Passes.{book_of, HasSeenMore, Visits, IsFull, IsJoined, HasMadeAll}
use Rattle.shared_books.specs.Turns.{Boxed, book_after}
use Rattle.shared_books.specs.declared.turns.rule.{Mark.Mark, Opening.Opening, PassState.PassState}
use Rattle.shared_books.specs.inside.{Passes.opened_of, SeatStates.IsFree, SeatStates.SeesMore}
use Rattle.shared_books.specs.inside.SeatStates.{HasBookOut, FindsFull, BringsVisit, IsPass}
use Rattle.shared_books.specs.inside.Steps.{Seat, new_pass_state, left_pass_state, both_pass_states}
use Rattle.shared_books.specs.inside.Steps.{HasSeen, HasEndedJoin}

-- a pass, as contracts see it
abbrev pub knows : TableId → Seat → PassView
knows home me = record
    { book = opened_of home me.0.opened; claims = me.0.claims; marks = me.0.marks }

-- going on
pub goes_nowhere : (me : Seat) → IsFree me → SeesMore me me
goes_nowhere me f =
    let same : me.0.marks ≡ me.0.marks ++ [] = sym (append-nil me.0.marks) in
    record {
      between = [];
      state_is = λ k. record {
        unjoined = f.unjoined k;
        opened = me.0.opened;
        claims = me.0.claims;
        turn =
            me.0.turn;
        marks = same k;
        met = me.0.met;
      };
      carries = refl;
    }

pub goes_on : (a b c : Seat) → SeesMore a b → SeesMore b c → SeesMore a c
goes_on a b c g h =
    let marks : b.0.marks ++ others h.between ≡ a.0.marks ++ others (g.between ++ h.between) =
    ap (λ v. v.marks ++ others h.between) g.state_is
    ∙ (append_assoc a.0.marks (others g.between) (others h.between)
    ∙ ap (λ ms. a.0.marks ++ ms) (sym (others-append g.between h.between))) in
    record {
      between = g.between ++ h.between;
      state_is = h.state_is
          ∙ (ap (λ ms. pass_state b.0.opened b.0.claims b.0.turn ms b.0.met) marks
          ∙ ap (λ v. pass_state v.opened v.claims v.turn
          (a.0.marks ++ others (g.between ++ h.between)) v.met) g.state_is);
      carries = h.carries ∙ g.carries;
    }

pub still_free : (a b : Seat) → IsFree a → SeesMore a b → IsFree b
still_free a b f g = record {
  unjoined = ap (λ v. v.unjoined) g.state_is;
  turn = ap (λ v. v.turn) g.state_is ∙ f.turn;
  met = ap (λ v. v.met) g.state_is ∙ f.met;
  carries = g.carries ∙ f.carries;
}

pub seen_goes_on : (a : Seat) (found : ℕ) (b : Seat) → HasSeen a found b → SeesMore a b
seen_goes_on a found b h =
    record { between = h.between; state_is = h.state_is; carries = h.carries }

pub out_later : (a b c : Seat) (number : ℕ) (book : Book) → SeesMore a b
    → HasBookOut b c number book → HasBookOut a c number book
out_later a b c number book g h =
    let marks : b.0.marks ++ others h.between ≡ a.0.marks ++ others (g.between ++ h.between) =
    ap (λ v. v.marks ++ others h.between) g.state_is
    ∙ (append_assoc a.0.marks (others g.between) (others h.between)
    ∙ ap (λ ms. a.0.marks ++ ms) (sym (others-append g.between h.between))) in
    let opened : b.0.opened ≡ a.0.opened = ap (λ v. v.opened) g.state_is in
    record {
      between = g.between ++ h.between;
      state_is = h.state_is
          ∙ (ap (λ ms. pass_state b.0.opened b.0.claims true ms []) marks
          ∙ ap (λ v. pass_state v.opened v.claims true
          (a.0.marks ++ others (g.between ++ h.between)) []) g.state_is);
      number_is = h.number_is
          ∙ (ap (λ (ms : List Mark). b.0.opened.first + length ms) marks
          ∙ ap (λ (o : Opening). o.first + length (a.0.marks ++ others (g.between ++ h.between)))
          opened);
      few = h.few;
      legal = subst
          (λ (o : Opening). IsLegal o.book.value.table
          (history_of_visits (visits_of (a.0.marks ++ others (g.between ++ h.between))))) opened
          (subst (λ ms. IsLegal b.0.opened.book.value.table (history_of_visits (visits_of ms)))
          marks h.legal);
      book_is = h.book_is
          ∙ (ap (λ ms. book_after b.0.opened (visits_of ms)) marks
          ∙ ap (λ o. book_after o (visits_of (a.0.marks ++ others (g.between ++ h.between))))
          opened);
      carries = h.carries;
    }

small_of : (found n : ℕ) → (found ≡ 2 * n) ⊎ (found ≡ 2 * n + 1) → found ≤ 2 ^ 63 → n ≤ 2 ^ 62
small_of found n w le = ⊎_elim (λ e. even found n e le) (λ e. odd found n e le) w
  where
    even : (found n : ℕ) → found ≡ 2 * n → found ≤ 2 ^ 63 → n ≤ 2 ^ 62
    even found n e le = omega arith

    odd : (found n : ℕ) → found ≡ 2 * n + 1 → found ≤ 2 ^ 63 → n ≤ 2 ^ 62
    odd found n e le = omega arith

full_of : (n : ℕ) → (2 ^ 63 ≡ 2 * n) ⊎ (2 ^ 63 ≡ 2 * n + 1) → n ≡ 2 ^ 62
full_of n w = ⊎_elim (λ e. even n e) (λ e. absurd (odd n e)) w
  where
    even : (n : ℕ) → 2 ^ 63 ≡ 2 * n → n ≡ 2 ^ 62
    even n e = omega arith

    odd : (n : ℕ) → 2 ^ 63 ≡ 2 * n + 1 → ⊥
    odd n e = omega arith

pub finds_full : (a : Seat) (found : ℕ) (b : Seat) → found ≡ 2 ^ 63 → HasSeen a found b
    → FindsFull a b
finds_full a found b full h = record {
  goes_on = seen_goes_on a found b h;
  legal = subst
      (λ (v : PassState). IsLegal v.opened.book.value.table (history_of_visits (visits_of v.marks)))
      (sym h.state_is) h.legal;
  count = ap (λ v. v.opened.first + length v.marks) h.state_is
      ∙ full_of _
      (subst (λ n. (n ≡ 2 * (a.0.opened.first + length (a.0.marks ++ others h.between)))
      ⊎ (n ≡ 2 * (a.0.opened.first + length (a.0.marks ++ others h.between)) + 1)) full h.word);
}

pub full_later : (a b c : Seat) → SeesMore a b → FindsFull b c → FindsFull a c
full_later a b c g f =
    record { goes_on = goes_on a b c g f.goes_on; legal = f.legal; count = f.count }

-- a pass goes on
pub pass_goes_on : (held : ℕ) (a b : Seat) → IsPass held a → SeesMore a b
    → b.0.opened.first + length b.0.marks ≤ 2 ^ 62 → IsPass held b
pass_goes_on held a b p g small = record {
  free = still_free a b p.free g;
  held_is = p.held_is ∙ ap (λ (made : List (ℕ × List Entry)). length made)
      (sym (ap (λ v. made_from v.opened.first v.marks) g.state_is
      ∙ made-caught a.0.opened.first a.0.marks g.between));
  small = small;
}

pub pass_looks : (held : ℕ) (a : Seat) (found : ℕ) (b : Seat) → IsPass held a → HasSeen a found b
    → IsPass held b
pass_looks held a found b p h = pass_goes_on held a b p (seen_goes_on a found b h)
    (subst (λ n. n ≤ 2 ^ 62) (sym (ap (λ v. v.opened.first + length v.marks) h.state_is))
    (small_of found _ h.word h.most))

pub later_of : (home : TableId) (a b : Seat) → SeesMore a b
    → IsLegal b.0.opened.book.value.table (history_of_visits (visits_of b.0.marks))
    → HasSeenMore (knows home a) (knows home b)
later_of home a b g legal = record {
  between = g.between;
  book = ap (λ v. opened_of home v.opened) g.state_is;
  claims = ap (λ v. v.claims) g.state_is;
  marks = ap (λ v. v.marks) g.state_is;
  made = ap (λ v. made_from v.opened.first v.marks) g.state_is
      ∙ made-caught a.0.opened.first a.0.marks g.between;
  legal = legal;
}

pub later_by_look : (home : TableId) (a : Seat) (found : ℕ) (b : Seat) → HasSeen a found b
    → HasSeenMore (knows home a) (knows home b)
later_by_look home a found b h =
    later_of home a b (seen_goes_on a found b h)
    (subst (λ (v : PassState). IsLegal v.opened.book.value.table
    (history_of_visits (visits_of v.marks))) (sym h.state_is) h.legal)

pub full_pass : (home : TableId) (b : Seat) → b.0.opened.first + length b.0.marks ≡ 2 ^ 62
    → IsFull (knows home b)
full_pass home b e = record { count = ap (λ n. b.0.opened.first + n) (length-visits b.0.marks) ∙ e }

-- a new pass
pub new_pass_is : (held : ℕ) (a : Seat) (b : Seat) → IsPass held a → b ≡ (new_pass_state a.0, [])
    → IsPass 0 b
new_pass_is held a b p e = subst (λ (me : Seat). IsPass 0 me) (sym e) record {
  free = record { unjoined = refl; turn = refl; met = refl; carries = refl };
  held_is = sym
      (ap (λ (made : List (ℕ × List Entry)). length made)
      (made-others a.0.opened.first (visits_of a.0.marks)));
  small = (let l = sym (length-visits (others (visits_of a.0.marks)))
      ∙ (ap (λ (vs : List (List Entry)). length vs) (visits-others (visits_of a.0.marks))
      ∙ length-visits a.0.marks) in let s = p.small in omega arith);
}

-- and the old one after it was split off
pub left_pass_is : (held : ℕ) (a : Seat) (b : Seat) → IsPass held a → b ≡ (left_pass_state a.0, a.1)
    → IsPass held b
left_pass_is held a b p e = subst (λ (me : Seat). IsPass held me) (sym e) record {
  free = record { unjoined = refl; turn = p.free.turn; met = p.free.met; carries = p.free.carries };
  held_is = p.held_is;
  small = p.small;
}

-- the book has gained a visit
book_now : (a b : Seat) (number : ℕ) (book more : Book) (visit : List Entry)
    → HasBookOut a b number book → more ≡ with_entries book visit
    → more ≡ book_after b.0.opened (visits_of b.0.marks ++ visit ∷ [])
book_now a b number book more visit h e =
    let opened : b.0.opened ≡ a.0.opened = ap (λ v. v.opened) h.state_is in
    let marks : b.0.marks ≡ a.0.marks ++ others h.between = ap (λ v. v.marks) h.state_is in
    e ∙ (ap (λ x. with_entries x visit) h.book_is
    ∙ (ap (λ es. record {
      table = a.0.opened.book.value.table;
      shard = a.0.opened.book.value.shard;
      shards =
          a.0.opened.book.value.shards;
      entries = es;
    })
    (sym (joined-snoc (visits_of (a.0.marks ++ others h.between)) visit))
    ∙ (ap (λ o. book_after o (visits_of (a.0.marks ++ others h.between) ++ visit ∷ [])) (sym opened)
    ∙ ap (λ ms. book_after b.0.opened (visits_of ms ++ visit ∷ [])) (sym marks))))

pub entries_now : (a b : Seat) (number : ℕ) (book more : Book) (visit : List Entry)
    → HasBookOut a b number book → more ≡ with_entries book visit
    → more.entries ≡ history_of_visits (visits_of b.0.marks) ++ visit
entries_now a b number book more visit h e =
    ap (λ x. x.entries) (book_now a b number book more visit h e)
    ∙ joined-snoc (visits_of b.0.marks) visit

pub legal_now : (a b : Seat) (number : ℕ) (book more : Book) (visit : List Entry)
    → HasBookOut a b number book → more ≡ with_entries book visit → IsLegal more.table more.entries
    → IsLegal b.0.opened.book.value.table (history_of_visits (visits_of b.0.marks ++ visit ∷ []))
legal_now a b number book more visit h e legal =
    subst (λ (x : Book). IsLegal x.table x.entries) (book_now a b number book more visit h e) legal

pub brings : (a b : Seat) (number : ℕ) (book more : Book) (visit : List Entry)
    → HasBookOut a b number book → more ≡ with_entries book visit → IsLegal more.table more.entries
    → BringsVisit b number more
brings a b number book more visit h e legal =
    let opened : b.0.opened ≡ a.0.opened = ap (λ v. v.opened) h.state_is in
    let marks : b.0.marks ≡ a.0.marks ++ others h.between = ap (λ v. v.marks) h.state_is in
    record {
      visit = visit;
      unjoined = ap (λ v. v.unjoined) h.state_is;
      turn = ap (λ v. v.turn) h.state_is;
      carries = h.carries;
      number_is = h.number_is
          ∙ (ap (λ (ms : List Mark). a.0.opened.first + length ms) (sym marks)
          ∙ ap (λ (o : Opening). o.first + length b.0.marks) (sym opened));
      few = h.few;
      legal = legal_now a b number book more visit h e legal;
      book_is = book_now a b number book more visit h e;
    }

-- a read gains nothing
pub nothing_more : (book : Book) → book ≡ with_entries book []
nothing_more book = λ i. record {
  table = book.table;
  shard = book.shard;
  shards = book.shards;
  entries =
      sym (append-nil book.entries) i;
}

-- the seat after the turn was given back
abbrev pub gave_back : Seat → List Entry → Seat
gave_back b
    visit = (pass_state b.0.opened b.0.claims false (b.0.marks ++ mark true visit ∷ []) b.0.met, [])

pub pass_visits : (held : ℕ) (a b c : Seat) (number : ℕ) (book : Book) (visit : List Entry)
    → IsPass held a → HasBookOut a b number book → c ≡ gave_back b visit → IsPass (held + 1) c
pass_visits held a b c number book visit p h e =
    let opened : b.0.opened ≡ a.0.opened = ap (λ v. v.opened) h.state_is in
    let marks : b.0.marks ≡ a.0.marks ++ others h.between = ap (λ v. v.marks) h.state_is in
    let same : made_from b.0.opened.first b.0.marks ≡ made_from a.0.opened.first a.0.marks =
    ap (λ v. made_from v.opened.first v.marks) h.state_is
    ∙ made-caught a.0.opened.first a.0.marks h.between in
    let made : made_from b.0.opened.first (b.0.marks ++ mark true visit ∷ [])
    ≡ made_from a.0.opened.first a.0.marks ++ (b.0.opened.first + length b.0.marks, visit) ∷ [] =
    made-snoc b.0.opened.first b.0.marks visit
    ∙ ap (λ ms. ms ++ (b.0.opened.first + length b.0.marks, visit) ∷ []) same in
    let number_is : number ≡ b.0.opened.first + length b.0.marks =
    h.number_is
    ∙ (ap (λ (ms : List Mark). a.0.opened.first + length ms) (sym marks)
    ∙ ap (λ (o : Opening). o.first + length b.0.marks) (sym opened)) in
    subst (λ (me : Seat). IsPass (held + 1) me) (sym e) record {
      free = record
          { unjoined = refl; turn = refl; met = ap (λ v. v.met) h.state_is; carries = refl };
      held_is =
          (let l = ap (λ (ms : List (ℕ × List Entry)). length ms) made in let m =
          length-append (made_from a.0.opened.first a.0.marks)
          ((b.0.opened.first + length b.0.marks, visit) ∷ []) in let was = p.held_is in
          omega arith);
      small = (let l = length-append b.0.marks (mark true visit ∷ []) in let f = h.few in
          omega arith);
    }

pub visits_made : (home : TableId) (a b c : Seat) (number : ℕ) (book : Book) (visit : List Entry)
    → HasBookOut a b number book → c ≡ gave_back b visit
    → IsLegal b.0.opened.book.value.table (history_of_visits (visits_of b.0.marks ++ visit ∷ []))
    → Visits (knows home a) (knows home c) number visit
visits_made home a b c number book visit h e legal =
    let opened : b.0.opened ≡ a.0.opened = ap (λ v. v.opened) h.state_is in
    let marks : b.0.marks ≡ a.0.marks ++ others h.between = ap (λ v. v.marks) h.state_is in
    let same : made_from b.0.opened.first b.0.marks ≡ made_from a.0.opened.first a.0.marks =
    ap (λ v. made_from v.opened.first v.marks) h.state_is
    ∙ made-caught a.0.opened.first a.0.marks h.between in
    let number_is : number ≡ b.0.opened.first + length b.0.marks =
    h.number_is
    ∙ (ap (λ (ms : List Mark). a.0.opened.first + length ms) (sym marks)
    ∙ ap (λ (o : Opening). o.first + length b.0.marks) (sym opened)) in
    let size : length (a.0.marks ++ others h.between) ≡ length (visits_of a.0.marks ++ h.between) =
    sym (length-visits (a.0.marks ++ others h.between))
    ∙ ap (λ (vs : List (List Entry)). length vs) (visits-caught a.0.marks h.between) in
    record {
      between = h.between;
      book = ap (λ me. opened_of home me.0.opened) e ∙ ap (λ o. opened_of home o) opened;
      claims = ap (λ me. me.0.claims) e ∙ ap (λ v. v.claims) h.state_is;
      marks = ap (λ me. me.0.marks) e ∙ ap (λ ms. ms ++ mark true visit ∷ []) marks;
      number_is = h.number_is ∙ ap (λ n. a.0.opened.first + n) size;
      few = h.few;
      made = ap (λ me. made_from me.0.opened.first me.0.marks) e
          ∙ (made-snoc b.0.opened.first b.0.marks visit
          ∙ (ap (λ ms. ms ++ (b.0.opened.first + length b.0.marks, visit) ∷ []) same
          ∙ ap (λ n. made_from a.0.opened.first a.0.marks ++ (n, visit) ∷ []) (sym number_is)));
      legal = subst
          (λ (me : Seat). IsLegal me.0.opened.book.value.table
          (history_of_visits (visits_of me.0.marks))) (sym e)
          (subst (λ vs. IsLegal b.0.opened.book.value.table (history_of_visits vs))
          (sym (visits-append b.0.marks (mark true visit ∷ []))) legal);
    }

-- two passes meet
pub pass_joins : (held more : ℕ) (a b met c : Seat) → IsPass held a → IsPass more b
    → met ≡ (both_pass_states a.0 b.0, a.1) → HasEndedJoin met c
    → a.0.opened.first ≡ b.0.opened.first → IsPass (held + more) c
pass_joins held more a b met c p q e h first =
    let now : c.0 ≡ pass_state a.0.opened (a.0.claims + b.0.claims) a.0.turn
    (joined_marks a.0.marks b.0.marks) [] =
    h.state_is ∙ ap
    (λ (me : Seat). pass_state me.0.opened me.0.claims me.0.turn (joined_marks me.0.marks me.0.met)
    []) e in
    let apart : Apart a.0.marks b.0.marks =
    subst (λ (me : Seat). Apart me.0.marks me.0.met) e h.apart in
    record {
      free = record {
        unjoined = ap (λ v. v.unjoined) now;
        turn = ap (λ v. v.turn) now ∙ p.free.turn;
        met =
            ap (λ v. v.met) now;
        carries = h.carries ∙ (ap (λ me. me.1) e ∙ p.free.carries);
      };
      held_is = (
          let l = ap (λ (v : PassState). length (made_from v.opened.first v.marks)) now in
          let m = length-made-merged a.0.opened.first a.0.marks b.0.marks apart in
          let n = ap (λ k. length (made_from k b.0.marks)) first in
          let x = p.held_is in let y = q.held_is in omega arith);
      small = (
          let l : c.0.opened.first + length c.0.marks
          ≡ a.0.opened.first + length (joined_marks a.0.marks b.0.marks) =
          ap (λ (v : PassState). v.opened.first + length v.marks) now in
          let s = ap (λ (me : Seat). me.0.opened.first + length (joined_marks me.0.marks me.0.met))
          e in
          let f = h.small in omega arith);
    }

pub joined_of : (home : TableId) (a b met c : Seat) → met ≡ (both_pass_states a.0 b.0, a.1)
    → HasEndedJoin met c → a.0.opened.first ≡ b.0.opened.first
    → IsJoined (knows home a) (knows home b) (knows home c)
joined_of home a b met c e h first =
    let now : c.0 ≡ pass_state a.0.opened (a.0.claims + b.0.claims) a.0.turn
    (joined_marks a.0.marks b.0.marks) [] =
    h.state_is ∙ ap
    (λ (me : Seat). pass_state me.0.opened me.0.claims me.0.turn (joined_marks me.0.marks me.0.met)
    []) e in
    let apart : Apart a.0.marks b.0.marks =
    subst (λ (me : Seat). Apart me.0.marks me.0.met) e h.apart in
    record {
      book = ap (λ v. opened_of home v.opened) now;
      claims = ap (λ v. v.claims) now;
      marks = ap (λ v. v.marks) now;
      held = (
          let l = ap (λ (v : PassState). length (made_from v.opened.first v.marks)) now in
          let m = length-made-merged a.0.opened.first a.0.marks b.0.marks apart in
          let n = ap (λ k. length (made_from k b.0.marks)) first in omega arith);
      apart = apart;
      begins = subst
          (λ (me : Seat). Rattle.shared_books.specs.Marks.Begins (visits_of me.0.marks)
          (visits_of me.0.met)
          ⊎ Rattle.shared_books.specs.Marks.Begins (visits_of me.0.met) (visits_of me.0.marks)) e
          h.begins;
    }

-- the end
pub whole_slot : (k : Opening) (held : ℕ) (me : Seat) (word : ℕ) (slot : Option Boxed)
    → IsPass held me → Closes k me.0 word slot → word / 2 + word % 2 - k.first ≤ held
    → (b : Boxed) × (slot ≡ Some b) × (b.value ≡ book_after k (visits_of me.0.marks))
whole_slot k held me word slot p c le =
    c.whole (let m = made_few me.0.opened.first me.0.marks in let h = p.held_is in let s = c.seen in
    omega arith)

pub made_whole : (home : TableId) (k : Opening) (held : ℕ) (me : Seat) (word : ℕ)
    (slot : Option Boxed) (book : Boxed) (closed : Book) → IsPass held me → Closes k me.0 word slot
    → word / 2 + word % 2 - k.first ≤ held → slot ≡ Some book → closed ≡ book.value
    → HasMadeAll (knows home me) closed
made_whole home k held me word slot book closed p c le is out =
    let whole = whole_slot k held me word slot p c le in
    let same : book ≡ whole.0 = ap (λ o. unwrap_or o book) (sym is ∙ whole.1) in
    record {
      made = made_all me.0.opened.first me.0.marks
          (let h = p.held_is in let s = c.seen in omega arith);
      book = out
          ∙ (ap (λ b. b.value) same
          ∙ (whole.2 ∙ ap (λ o. book_of (opened_of home o) (visits_of me.0.marks)) (sym c.opened)));
    }

-- if the pass holds fewer visits than are kept, some claim is not its own
pub lacks_claims : (home : TableId) (k : Opening) (held : ℕ) (me : Seat) (word : ℕ)
    (slot : Option Boxed) → IsPass held me → Closes k me.0 word slot
    → held < word / 2 + word % 2 - k.first → (knows home me).claims < all_claims
lacks_claims home k held me word slot p c less = lt_of_not-le (λ whole. absurd (
    let many = c.all whole in
    let own : length (made_from me.0.opened.first me.0.marks)
    ≡ length (made_from k.first me.0.marks) =
    ap (λ (o : Opening). length (made_from o.first me.0.marks)) c.opened in
    let h = p.held_is in
    omega arith))

-- the same, of a pass as contracts saw it before
pub full_reported : (home there : TableId) (old : PassView) (a b : Seat) → knows home a ≡ old
    → there ≡ home → FindsFull a b → HasSeenMore old (knows there b) × IsFull (knows there b)
full_reported home there old a b is same f =
    let P : TableId → PassView → Type 0 = λ h k. HasSeenMore k (knows h b) × IsFull (knows h b) in
    subst (λ k. P there k) is
    (subst (λ h. P h (knows home a)) (sym same)
    (later_of home a b f.goes_on f.legal, full_pass home b f.count))

pub full_pass_is : (held : ℕ) (a b : Seat) → IsPass held a → FindsFull a b → IsPass held b
full_pass_is held a b p f = pass_goes_on held a b p f.goes_on (omega (arith, f.count))

pub visit_reported : (home there : TableId) (old : PassView) (a b c : Seat) (number : ℕ)
    (book : Book)
    (visit : List Entry) → knows home a ≡ old → there ≡ home → HasBookOut a b number book
    → c ≡ gave_back b visit
    → IsLegal b.0.opened.book.value.table (history_of_visits (visits_of b.0.marks ++ visit ∷ []))
    → Visits old (knows there c) number visit
visit_reported home there old a b c number book visit is same h e legal =
    subst (λ k. Visits k (knows there c) number visit) is
    (subst (λ x. Visits (knows home a) (knows x c) number visit) (sym same)
    (visits_made home a b c number book visit h e legal))

pub held_small : (held : ℕ) (me : Seat) → IsPass held me → held ≤ 2 ^ 62
held_small held me p = let f = made_few me.0.opened.first me.0.marks in let h = p.held_is in let s =
    p.small in omega arith

-- a read: the book that was out, and what is seen of it afterwards
pub legal_out : (a b : Seat) (number : ℕ) (book : Book) → HasBookOut a b number book
    → IsLegal book.table book.entries
legal_out a b number book h =
    subst (λ (x : Book). IsLegal x.table x.entries) (sym h.book_is) h.legal

pub seen_out : (there : TableId) (a b c : Seat) (number : ℕ) (book : Book)
    → HasBookOut a b number book → c ≡ gave_back b []
    → book.entries ≡ history_of_visits (seen_by (knows there c))
seen_out there a b c number book h e =
    entries_now a b number book book [] h (nothing_more book)
    ∙ (sym (joined-snoc (visits_of b.0.marks) [])
    ∙ (ap history_of_visits (sym (visits-append b.0.marks (mark true [] ∷ [])))
    ∙ ap (λ me. history_of_visits (visits_of me.0.marks)) (sym e)))

pub table_out : (home : TableId) (old : PassView) (a b : Seat) (number : ℕ) (book : Book)
    → knows home a ≡ old → HasBookOut a b number book → book.table ≡ old.book.table
table_out home old a b number book is h = ap (λ x. x.table) h.book_is ∙ ap (λ k. k.book.table) is
