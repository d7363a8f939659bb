-- Two ledgers that are read side by side: what was given, and what is left.
use Rattle.std.proofs.Common.{◌≡◌, ◌+◌, ℕ, Bool, true, false, List, [], ◌∷◌, ◌++◌, length, Option}
use Rattle.std.proofs.Common.{Some, None, Ok, Err, refl, subst, sym, ap, ◌∙◌, arith, append-nil}
use Rattle.std.proofs.Common.{append_assoc, filter, drop, if◌then◌else◌, length-append, option_map}
use Rattle.std.proofs.Common.{inl, inr, ◌⊎◌}
use Rattle.ledger_changes.specs.Changes.{Pair, beside, changes_between, is_changed}
use Rattle.ledger_changes.specs.Given.{HasStarted, HasGiven, IsFaultOf, IsGivenAfter, after_text}
use Rattle.ledger_changes.specs.Given.{calls_by, Said, Walked, new_calls, old_calls, text_left}
use Rattle.ledger_changes.specs.{Ledgers.cons_row, Ledgers.rows_from, Ledgers.rows_of, Rows.key_cmp}
use Rattle.ledger_changes.specs.Texts.{corrections_lines, is_removed, removed_in}
use Rattle.ledger_changes.specs.Tokens.{TokenSum, all_lines, changes_of_both, head_of, last_sums}
use Rattle.ledger_changes.specs.Tokens.{lines_of_changes, sums_line, sums_with, text_of}
use Rattle.ledger_changes.specs.declared.{changes.Corrections.Corrections, fault.Bill.Bill}
use Rattle.ledger_changes.specs.declared.fault.Bill.TheVariants.{New, Old}
use Rattle.ledger_changes.specs.declared.fault.CorrectionsFault.{CorrectionsFault}
use Rattle.ledger_changes.specs.declared.fault.CorrectionsFault.TheVariants.{Line, Unread, NoMemory}
use Rattle.ledger_changes.specs.declared.fault.WrongLine.{WrongLine}
use Rattle.ledger_changes.specs.declared.ledger_rows.LedgerRows.{LedgerRows}
use Rattle.ledger_changes.specs.declared.row.LedgerRow.{LedgerRow}
use Rattle.ledger_changes.specs.inside.Pairs.{next_sides, pairs_of, sides_by}
use Rattle.ledger_changes.specs.inside.Readings.{HasEnded, IsWrongAs, rows_at, rows_with, with_row}
use Rattle.ledger_changes.specs.inside.{Views.row_in, Views.row_of, Views.sum_in, Walks.WalksOn}
use Rattle.ledger_fields.specs.Rows.{Row}
use Rattle.line_folds.specs.Folds.{lines_of}
use Rattle.recorded_lines.specs.Texts.{CanBe, IsFresh, calls_of, left}
use Rattle.recorded_lines.specs.declared.text.Lines.{Lines}
use Rattle.std.proofs.lemmas.List.Elements.{filter-append}
use Rattle.std.specs.{Prelude.option_to_list, declared.cmp.Ordering.Ordering}
use Rattle.std.specs.declared.cmp.Ordering.TheVariants.{Less, Equal, Greater}
use Rattle.world.specs.{Run.Calls, Streams.IsWhole}

-- ---- the text of corrections, in two parts
lines_more : (by_token : Bool) (last : Option TokenSum) (done more : List Pair)
    → lines_of_changes by_token last (done ++ more)
    ++ sums_line (last_sums by_token last (done ++ more))
    ≡ lines_of_changes by_token last done
    ++ (lines_of_changes by_token (last_sums by_token last done) more
    ++ sums_line (last_sums by_token (last_sums by_token last done) more))
lines_more by_token last [] more = refl
lines_more by_token last (change ∷ done) more =
    simp (append_assoc, lines_more by_token (sums_with by_token last change) done more)

removed_more : (changes more : List Pair)
    → removed_in (changes ++ more) ≡ removed_in changes + removed_in more
removed_more changes more =
    ap length (filter-append is_removed changes more)
    ∙ length-append (filter is_removed changes) (filter is_removed more)

pub plain_lines : (changes : List Pair) → all_lines false changes ≡ corrections_lines changes
plain_lines [] = refl
plain_lines (change ∷ changes) = simp (append_assoc, plain_lines changes)

-- ---- the next pair
-- the row, if it is taken
abbrev taken_if : Bool → Option Row → Option Row
taken_if true row = row
taken_if false row = None

-- rows that begin with the row, or none
abbrev Heads : Option Row → List Row → Type 0
Heads None rows = rows ≡ []
Heads (Some row) rows = (more : List Row) × (rows ≡ row ∷ more)

abbrev StepsAt : Option Row → Option Row → Bool × Bool → Type 0
StepsAt o n sides = (olds news : List Row) → Heads o (option_to_list (taken_if sides.0 o) ++ olds)
    → Heads n (option_to_list (taken_if sides.1 n) ++ news)
    → beside (option_to_list (taken_if sides.0 o) ++ olds) (option_to_list (taken_if sides.1 n) ++ news)
    ≡ pairs_of (taken_if sides.0 o) (taken_if sides.1 n) ++ beside olds news

by_order : (old new : Row) (order : Ordering) → key_cmp old.key new.key ≡ order
    → StepsAt (Some old) (Some new) (sides_by order)
by_order old new Less e olds news is (more, also) = rw (also, e)
by_order old new Equal e olds news is also = rw e
by_order old new Greater e olds news (more, is) also = rw (is, e)

steps : (o n : Option Row) → StepsAt o n (next_sides o n)
steps None None olds news is also = refl
steps (Some old) None olds news is also = rw also
steps None (Some new) olds news is also = rw is
steps (Some old) (Some new) olds news is also =
    by_order old new (key_cmp old.key new.key) refl olds news is also

-- ---- what a ledger still says
abbrev HasRow : Option Row → Said → Type 0
HasRow None said = said ≡ Ok []
HasRow (Some row) said = (rest : Said) × (said ≡ cons_row row rest)

row_of_said : (row : Option Row) (number : ℕ) (text : List ℕ)
    → HasRow row (rows_with row number text)
row_of_said None number text = refl
row_of_said (Some row) number text = (rows_from (number + 1) (Some row) (lines_of text), refl)

heads : (row : Option Row) (said : Said) (rows : List Row) → HasRow row said → said ≡ Ok rows
    → Heads row rows
heads None said rows is right = let t : [] ≡ rows = cc in sym t
heads (Some row) said rows (Err wrong, is) right =
    absurd (let t : Err wrong ≡ Ok rows = sym is ∙ right in cc)
heads (Some row) said rows (Ok more, is) right = (
  more,
  let t : row ∷ more ≡ rows = (let u : Ok (row ∷ more) ≡ Ok rows = sym is ∙ right in cc) in
      sym t,
)

no_row : (row : Option Row) (said : Said) → HasRow row said → row ≡ None → said ≡ Ok []
no_row None said is none = is
no_row (Some row) said is none = absurd (cc)

with_ok : (row : Option Row) (rows : List Row) → with_row row (Ok rows) ≡ Ok (option_to_list row ++ rows)
with_ok None rows = refl
with_ok (Some row) rows = refl

with_err : (row : Option Row) (wrong : ℕ × WrongLine) → with_row row (Err wrong) ≡ Err wrong
with_err None wrong = refl
with_err (Some row) wrong = refl

changes_more : (b a : Option Row) (old' new' : Said)
    → ((olds news : List Row) → old' ≡ Ok olds → new' ≡ Ok news
    → beside (option_to_list b ++ olds) (option_to_list a ++ news) ≡ pairs_of b a ++ beside olds news)
    → changes_of_both (with_row b old') (with_row a new')
    ≡ option_map (λ more. filter is_changed (pairs_of b a) ++ more) (changes_of_both old' new')
changes_more b a (Err wrong) new' each = rw (with_err b wrong)
changes_more b a (Ok olds) (Err wrong) each = rw (with_ok b olds, with_err a wrong)
changes_more b a (Ok olds) (Ok news) each =
    rw (with_ok b olds, with_ok a news, each olds news refl refl)
    (ap (λ (changes : List Pair). Some changes)
    (filter-append is_changed (pairs_of b a) (beside olds news)))

wrong_with : (row : Option Row) (said rest : Said) (wrong : ℕ × WrongLine)
    → said ≡ with_row row rest → rest ≡ Err wrong → said ≡ Err wrong
wrong_with row said rest wrong is bad = is ∙ ap (with_row row) bad ∙ with_err row wrong

no_pair : (o n : Option Row)
    → [] ≡ pairs_of (taken_if (next_sides o n).0 o) (taken_if (next_sides o n).1 n)
    → (o ≡ None) × (n ≡ None)
no_pair None None none = (refl, refl)
no_pair (Some old) None none = absurd (cc)
no_pair None (Some new) none = absurd (cc)
no_pair (Some old) (Some new) none = absurd (some_pair (key_cmp old.key new.key) none)
  where
    some_pair : (order : Ordering)
        → [] ≡ pairs_of (taken_if (sides_by order).0 (Some old))
        (taken_if (sides_by order).1 (Some new)) → ⊥
    some_pair Less e = cc
    some_pair Equal e = cc
    some_pair Greater e = cc

-- ---- behind both rows
-- What both say after these pairs; nothing is left if there are none.
pub record Moved (old new old' new' : Said) (pairs : List Pair) : Type 0 where
  pub both : changes_of_both old new
      ≡ option_map (λ more. filter is_changed pairs ++ more) (changes_of_both old' new')
  pub wrong_old : (wrong : ℕ × WrongLine) → old' ≡ Err wrong → old ≡ Err wrong
  pub wrong_new : (wrong : ℕ × WrongLine) → new' ≡ Err wrong → new ≡ Err wrong
  pub over : [] ≡ pairs → (old' ≡ Ok []) × (new' ≡ Ok [])

pub moved : (old new : LedgerRows) (o n : List ℕ) {b a : Option LedgerRow} {sides : Bool × Bool}
    {old' new' : Said} → sides ≡ next_sides (row_in old.row) (row_in new.row)
    → b ≡ (if sides.0 then old.row else None) → a ≡ (if sides.1 then new.row else None)
    → rows_at old o ≡ with_row (row_in b) old' → rows_at new n ≡ with_row (row_in a) new'
    → Moved (rows_at old o) (rows_at new n) old' new' (pairs_of (row_in b) (row_in a))
moved old new o n {b = b} {a = a} {sides = sides} {old' = old'} {new' = new'} is is_b is_a old_is new_is =
    let o_row = row_in old.row in
    let n_row = row_in new.row in
    let row_o = row_of_said o_row old.number (left old.from o) in
    let row_n = row_of_said n_row new.number (left new.from n) in
    let b_is : row_in b ≡ taken_if (next_sides o_row n_row).0 o_row =
    ap row_in is_b ∙ taken_row sides.0 old.row ∙ ap (λ (p : Bool × Bool). taken_if p.0 o_row) is in
    let a_is : row_in a ≡ taken_if (next_sides o_row n_row).1 n_row =
    ap row_in is_a ∙ taken_row sides.1 new.row ∙ ap (λ (p : Bool × Bool). taken_if p.1 n_row) is in
    record {
      both = ap (λ (s : Said). changes_of_both s (rows_at new n)) old_is
          ∙ ap (λ (s : Said). changes_of_both (with_row (row_in b) old') s) new_is
          ∙ changes_more (row_in b) (row_in a) old' new' (λ olds news right_old right_new.
          rw (b_is, a_is) (steps o_row n_row olds news
          (rw b_is at (heads o_row (rows_at old o) (option_to_list (row_in b) ++ olds) row_o
          (old_is ∙ ap (with_row (row_in b)) right_old ∙ with_ok (row_in b) olds)))
          (rw a_is at (heads n_row (rows_at new n) (option_to_list (row_in a) ++ news) row_n
          (new_is ∙ ap (with_row (row_in a)) right_new ∙ with_ok (row_in a) news)))));
      wrong_old = λ wrong bad. wrong_with (row_in b) (rows_at old o) old' wrong old_is bad;
      wrong_new = λ wrong bad. wrong_with (row_in a) (rows_at new n) new' wrong new_is bad;
      over = λ none.
          let (no_old, no_new) = no_pair o_row n_row (rw (b_is, a_is) at none) in (
            ap (λ (r : Option Row). with_row r old')
                (sym (b_is ∙ taken_none (next_sides o_row n_row).0 o_row no_old))
                ∙ sym old_is ∙ no_row o_row (rows_at old o) row_o no_old,
            ap (λ (r : Option Row). with_row r new')
                (sym (a_is ∙ taken_none (next_sides o_row n_row).1 n_row no_new))
                ∙ sym new_is ∙ no_row n_row (rows_at new n) row_n no_new,
          );
    }
  where
    taken_row : (is_taken : Bool) (row : Option LedgerRow)
        → row_in (if is_taken then row else None) ≡ taken_if is_taken (row_in row)
    taken_row true row = refl
    taken_row false row = refl

    taken_none : (is_taken : Bool) (row : Option Row) → row ≡ None → taken_if is_taken row ≡ None
    taken_none true row none = none
    taken_none false row none = refl

-- ---- the text, and what is left of it
pub walk_first : (by_token : Bool) {removed : ℕ} {last : Option TokenSum} {old new old0 new0 : Said}
    → removed ≡ 0 → last ≡ None → old ≡ old0 → new ≡ new0
    → Walked by_token (head_of by_token) removed last old new old0 new0
walk_first by_token {old0 = old0} {new0 = new0} none closed is_old is_new = record {
  rest = rw (none, closed, is_old, is_new) (from_none (changes_of_both old0 new0));
  wrong_old = λ wrong is. sym is_old ∙ is;
  wrong_new = λ wrong is. sym is_new ∙ is;
}
  where
    from_none : (r : Option (List Pair)) → option_map (text_of by_token) r
        ≡ option_map (λ changes. after_text (head_of by_token) (text_left by_token 0 None changes)) r
    from_none None = refl
    from_none (Some changes) =
        ap (λ (n : ℕ). Some (head_of by_token ++ all_lines by_token changes, n)) (omega arith)

rest_on : (by_token : Bool) (text full : List ℕ) (removed counted : ℕ) (last last' : Option TokenSum)
    (now : List Pair) → full ≡ text ++ lines_of_changes by_token last now
    → last' ≡ last_sums by_token last now → counted ≡ removed + removed_in now
    → (r : Option (List Pair))
    → option_map (λ changes. after_text text (text_left by_token removed last changes))
    (option_map (λ more. now ++ more) r)
    ≡ option_map (λ changes. after_text full (text_left by_token counted last' changes)) r
rest_on by_token text full removed counted last last' now is_full sums count None = refl
rest_on by_token text full removed counted last last' now is_full sums count (Some more) =
    let texts = ap (λ (l : List ℕ). text ++ l) (lines_more by_token last now more)
    ∙ sym (append_assoc text (lines_of_changes by_token last now)
    (lines_of_changes by_token (last_sums by_token last now) more
    ++ sums_line (last_sums by_token (last_sums by_token last now) more))) in
    let counts : removed + removed_in (now ++ more) ≡ (removed + removed_in now) + removed_in more =
    (let n = removed_more now more in omega (arith, n)) in
    rw (is_full, sums, count) (λ i. Some (texts i, counts i))

module _ {by_token : Bool} {text full : List ℕ} {removed : ℕ} {last : Option TokenSum}
    {old new old' new' old0 new0 : Said} {pairs : List Pair}
    (w : Walked by_token text removed last old new old0 new0) (m : Moved old new old' new' pairs) where
  pub moved_next : {pair : Pair} {counted : ℕ} {last' : Option TokenSum} → pair ∷ [] ≡ pairs
      → full ≡ text ++ lines_of_changes by_token last (filter is_changed (pair ∷ []))
      → last' ≡ last_sums by_token last (filter is_changed (pair ∷ []))
      → counted ≡ removed + removed_in (filter is_changed (pair ∷ []))
      → Walked by_token full counted last' old' new' old0 new0
  moved_next {pair = pair} {counted = counted} {last' = last'} is is_full sums count = record {
    rest = w.rest ∙ rw (m.both, ← is) (rest_on by_token text full removed counted last last'
        (filter is_changed (pair ∷ [])) is_full sums count (changes_of_both old' new'));
    wrong_old = λ wrong bad. w.wrong_old wrong (m.wrong_old wrong bad);
    wrong_new = λ wrong bad. w.wrong_new wrong (m.wrong_new wrong bad);
  }

  pub moved_end : [] ≡ pairs → full ≡ text ++ sums_line last
      → (option_map (text_of by_token) (changes_of_both old0 new0) ≡ Some (full, removed))
      × (old' ≡ Ok []) × (new' ≡ Ok [])
  moved_end none is_full =
      let (no_old, no_new) = m.over none in (
        w.rest ∙ rw (m.both, ← none, no_old, no_new, is_full)
            (ap (λ (n : ℕ). Some (text ++ sums_line last, n)) (omega arith)),
        no_old,
        no_new,
      )

-- ---- what is to come
-- More would make the text whole, or a line of a ledger is wrong.
outlook : {by_token : Bool} {text : List ℕ} {removed : ℕ} {last : Option TokenSum}
    {old new : Said} (old0 new0 : Said) → Walked by_token text removed last old new old0 new0
    → ((rest : List ℕ) × (removed : ℕ)
    × (option_map (text_of by_token) (changes_of_both old0 new0) ≡ Some (text ++ rest, removed)))
    ⊎ (((wrong : ℕ × WrongLine) × (old0 ≡ Err wrong))
    ⊎ ((wrong : ℕ × WrongLine) × (new0 ≡ Err wrong)))
outlook (Err wrong) new0 w = inr (inl (wrong, refl))
outlook (Ok olds) (Err wrong) w = inr (inr (wrong, refl))
outlook {by_token = by_token} {text = text} {removed = removed} {last = last} {old = old} {new = new}
    (Ok olds) (Ok news) w =
    by (changes_of_both old new) w.rest
  where
    by : (r : Option (List Pair)) → Some (text_of by_token (changes_between olds news))
        ≡ option_map (λ changes. after_text text (text_left by_token removed last changes)) r
        → ((rest : List ℕ) × (removed : ℕ)
        × (Some (text_of by_token (changes_between olds news)) ≡ Some (text ++ rest, removed)))
        ⊎ (((wrong : ℕ × WrongLine) × (Ok olds ≡ Err wrong))
        ⊎ ((wrong : ℕ × WrongLine) × (Ok news ≡ Err wrong)))
    by None is = absurd (cc)
    by (Some changes) is =
        let rest = text_left by_token removed last changes in inl (rest.0, rest.1, is)

-- ---- of what reads gave
-- nothing may follow
pub can_be_read : (calls : Calls) → CanBe calls calls.reading.bytes
can_be_read calls =
    record { more = []; begins = sym (append-nil calls.reading.bytes); ends = λ whole. refl }

-- of a ledger of which nothing was read, all is left
pub all_left : (from : Lines) (whole : List ℕ) → IsFresh from → left from whole ≡ whole
all_left from whole fresh =
    ap (λ (l : List ℕ). l ++ drop (length (calls_of from).reading.bytes) whole) fresh.none
    ∙ ap (λ (l : List ℕ). drop (length l) whole) fresh.unread

-- at the end of its rows a ledger was read to its end
pub rows_ended : (ledger : LedgerRows) (whole : List ℕ) → HasEnded ledger
    → rows_at ledger whole ≡ Ok [] → IsWhole (calls_of ledger.from)
rows_ended ledger whole ended is = by ledger.row refl
  where
    some : (row : Row) (rest : Said) → cons_row row rest ≡ Ok [] → ⊥
    some row (Ok rows) is = cc
    some row (Err wrong) is = cc

    by : (row : Option LedgerRow) → ledger.row ≡ row → IsWhole (calls_of ledger.from)
    by None none = (ended none).whole
    by (Some row) at = absurd (some (row_of row)
        (rows_from (ledger.number + 1) (Some (row_of row)) (lines_of (left ledger.from whole)))
        (ap (λ (r : Option LedgerRow). rows_with (row_in r) ledger.number (left ledger.from whole))
        (sym at) ∙ is))

-- ---- which line is the first wrong one
-- the line of the ledger of this side, of which this is left
pub stops : (fault : CorrectionsFault) (side : Bill) {bill : Bill} (old new : Calls)
    (said : List ℕ → Said) → bill ≡ side
    → ((whole : List ℕ) → CanBe (calls_by side old new) whole
    → IsWrongAs bill (calls_by side old new) (said whole) fault)
    → ((whole : List ℕ) → CanBe (calls_by side old new) whole → (wrong : ℕ × WrongLine)
    → said whole ≡ Err wrong → rows_of whole ≡ Err wrong)
    → IsFaultOf fault old new
stops (Line at number why) side old new said is wrong first =
    let here = (wrong _ (can_be_read (calls_by side old new))).0 ∙ is in
    subst (λ (b : Bill). IsFaultOf (Line b number why) old new) (sym here)
    (λ whole can. first whole can (number, why) (wrong whole can).1)
stops (Unread at) side old new said is wrong first =
    let read = wrong _ (can_be_read (calls_by side old new)) in
    subst (λ (b : Bill). IsFaultOf (Unread b) old new) (sym (read.0 ∙ is)) read.1
stops NoMemory side old new said is wrong first = tt

-- ---- corrections that are given in pieces
pub started : (c : Corrections) (by_token : Bool) (text : List ℕ) (old new : Calls)
    → HasGiven c by_token text
    → ((whole : List ℕ) → CanBe old whole → CanBe (old_calls c) whole)
    → ((whole : List ℕ) → CanBe new whole → CanBe (new_calls c) whole)
    → HasStarted by_token text old new
started c by_token text old new has back_old back_new o n can_o can_n =
    outlook (rows_of o) (rows_of n) (has.walked o n (back_old o can_o) (back_new n can_n))

pub given_after : (c : Corrections) (by_token : Bool) (end : Option ℕ) (text : List ℕ)
    → c.is_by_token ≡ by_token → c.old.bill ≡ Old → c.new.bill ≡ New
    → HasEnded c.old × HasEnded c.new
    → WalksOn by_token end text c.tally.removed (sum_in c.tally.last) c.old c.new
    → IsGivenAfter c by_token end text
given_after c by_token None text by of_old of_new (old, new) on = record {
  by = by;
  of_old = of_old;
  of_new = of_new;
  ended_old = old;
  ended_new = new;
  walked = on;
}
given_after c by_token (Some removed) text by of_old of_new (old, new) on =
    let o = (old_calls c).reading.bytes in let n = (new_calls c).reading.bytes in
    let (is, no_old, no_new) = on o n (can_be_read (old_calls c)) (can_be_read (new_calls c)) in
    record {
      old_whole = rows_ended c.old o old no_old;
      new_whole = rows_ended c.new n new no_new;
      text_is = is;
    }
