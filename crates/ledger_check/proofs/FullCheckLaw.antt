-- A recount finds no line wrong exactly if the text is a ledger.
use Rattle.std.proofs.Common.{◌≡◌, ◌≢◌, ℕ, ◌+◌, ◌^◌, ◌<◌, ◌≤◌, inl, Bool, true, false, List, []}
use Rattle.std.proofs.Common.{◌∷◌, ◌++◌, length, map, All, Option, None, Some, refl, sym, ap, subst}
use Rattle.std.proofs.Common.{◌∙◌, arith, length-append, if◌then◌else◌}
use Rattle.fare_texts.specs.Explainers.{next_entry}
use Rattle.fare_texts.specs.LedgerLines.{head_text, IsLedgerLineAfter}
use Rattle.histories.specs.{Entry.own, declared.entry.Entry.Entry}
use Rattle.ledger_check.proofs.EntryLists.{next-parts, next-push, none_left}
use Rattle.ledger_check.proofs.FrontLemmas.{line_tap, tap_same_of_line}
use Rattle.ledger_check.proofs.RunLemmas.{State, nondecreasing, ruled_replied, state_push, unfallen}
use Rattle.ledger_check.proofs.{SameLines.next_same, TokenOrder.own-few}
use Rattle.ledger_check.specs.FullChecks.{AreTaken, IsCounted, IsFullCheck, IsJudged, IsLineOfTap}
use Rattle.ledger_check.specs.FullChecks.{FullChecksDecide, entries_from, entries_with, TakenLine}
use Rattle.ledger_check.specs.FullChecks.{decreases_after, lines_from, one_wrong, run_of, run_with}
use Rattle.ledger_check.specs.FullChecks.{taps_from, taps_with, remark_for, with_first, wrong_count}
use Rattle.ledger_check.specs.Ledger.{AreNext, IsLedgerOf, IsNext, IsNextLine, token_number}
use Rattle.ledger_check.specs.{Lines.lines_of, Orders.tap_of_entry}
use Rattle.ledger_check.specs.declared.walk.{CountedTap.CountedTap, Remark.Remark}
use Rattle.ledger_check.specs.declared.walk.Remark.TheVariants.{Nothing, NoLine}
use Rattle.std.proofs.lemmas.{List.map-append, Slice.Eq.bytes_eq-Decides}
use Rattle.std.specs.Str.{bytes_eq}
use Rattle.tap_views.specs.declared.{encoder.TapFields.TapFields, token.Token.Token}
use Rattle.tariffs.specs.Fares.{Fares}

one_zero : ◌≡◌ {A = ℕ} 1 0 → ⊥
one_zero is = absurd (omega (arith, is))

-- a right line's token does not fall, and the line is the wanted one
pub remark_right : (is_decrease same : Bool) → one_wrong (remark_for is_decrease same) ≡ 0
    → (is_decrease ≡ false) × (same ≡ true)
remark_right true same none = absurd (one_zero none)
remark_right false true none = (refl, refl)
remark_right false false none = absurd (one_zero none)

-- one line more of a ledger
pub record Step (fares : Fares) (run entries : List Entry) (line : List ℕ) (tap : Option CountedTap)
    (entry : Entry) : Type 0 where
  pub next : IsNext fares entries entry line
  pub state : State (run_with run tap) (entries ++ entry ∷ [])
  pub more : (earlier : List Entry) → entries_with earlier tap ≡ earlier ++ entry ∷ []

-- what the counted tap's entry is among all entries
pub record Ruled (fares : Fares) (run entries : List Entry) (tap : CountedTap)
    (wanted : List ℕ) : Type 0 where
  pub same : own tap.entry.token run ≡ own tap.entry.token entries
  pub ruled : tap.entry
      ≡ next_entry fares tap.entry.token (own tap.entry.token entries) tap.entry.validator
      tap.entry.moment
  pub shown : IsNextLine fares (own tap.entry.token entries) tap.entry wanted

ruled_of : (fares : Fares) (run entries : List Entry) (line : List ℕ) (tap : CountedTap)
    (remark : Remark) (wanted : List ℕ)
    → IsCounted fares run line tap remark wanted → State run entries
    → decreases_after run tap.entry.token ≡ false → Ruled fares run entries tap wanted
ruled_of fares run entries line tap remark wanted is state up =
    let same = (unfallen run entries tap.entry.token state is.of_tap.fits up).same in record {
      same = same;
      ruled = subst
          (λ (es : List Entry). tap.entry
          ≡ next_entry fares tap.entry.token es tap.entry.validator tap.entry.moment) same is.ruled;
      shown = subst
          (λ (es : List Entry). IsLedgerLineAfter fares tap.entry.token es tap.entry wanted) same
          is.shown;
    }

-- a tap whose token does not fall can have its line next
pub next_wanted : (fares : Fares) (run entries : List Entry) (line : List ℕ) (tap : CountedTap)
    (remark : Remark) (wanted : List ℕ) → IsCounted fares run line tap remark wanted
    → State run entries → decreases_after run tap.entry.token ≡ false → length wanted ≤ 255
    → length entries < 2 ^ 62 → IsNext fares entries tap.entry wanted
next_wanted fares run entries line tap remark wanted is state up short few =
    let entry = tap.entry in
    let all = ruled_of fares run entries line tap remark wanted is state up in
    record {
      postable = record
          { token = is.of_tap.fits; validator = is.of_tap.small; moment = is.of_tap.early };
      nondecreasing = (unfallen run entries entry.token state is.of_tap.fits up).up_to;
      replied = ruled_replied fares entries entry all.ruled;
      shown = all.shown;
      short = short;
      few = few;
    }

right_step : (fares : Fares) (run entries : List Entry) (line : List ℕ) (tap : Option CountedTap)
    (remark : Remark) (wanted : List ℕ)
    → IsJudged fares run line tap remark wanted → one_wrong remark ≡ 0 → State run entries
    → length entries < 2 ^ 62
    → (entry : Entry) × Step fares run entries line tap entry
right_step fares run entries line None remark wanted judged none state few =
    absurd (one_zero (ap one_wrong (sym judged.1) ∙ none))
right_step fares run entries line (Some tap) remark wanted is none state few =
    let entry = tap.entry in
    let is_right = remark_right (decreases_after run entry.token) (bytes_eq line wanted)
    (ap one_wrong (sym is.is_remark) ∙ none) in
    let line_is : line ≡ wanted = (bytes_eq-Decides line wanted).0 is_right.1 in (
      entry,
      record {
        next = subst (λ (l : List ℕ). IsNext fares entries entry l) (sym line_is)
            (next_wanted fares run entries line tap remark wanted is state is_right.0
            (subst (λ (l : List ℕ). length l ≤ 255) line_is is.of_tap.short) few);
        state = state_push run entries entry state is.of_tap.fits is_right.0;
        more = λ earlier. refl;
      },
    )

-- the lines of a ledger, and what was taken of them
pub record Legal (fares : Fares) (taken : List TakenLine) (entries : List Entry)
    (lines : List (List ℕ)) : Type 0 where
  pub are : AreNext fares [] entries lines
  pub state : State (run_of taken) entries
  pub same : entries_from taken ≡ entries
  pub counted : length taken ≡ length entries + 1

-- the taps of the lines are those of their entries
taps_more : (taps : List TapFields) (entries : List Entry) (tap : Option CountedTap)
    → taps ≡ map tap_of_entry entries
    → taps_with taps tap ≡ map tap_of_entry (entries_with entries tap)
taps_more taps entries None are = are
taps_more taps entries (Some tap) are =
    ap (λ (ts : List TapFields). ts ++ tap_of_entry tap.entry ∷ []) are
    ∙ sym (map-append tap_of_entry entries (tap.entry ∷ []))

taps_are : (taken : List TakenLine) → taps_from taken ≡ map tap_of_entry (entries_from taken)
taps_are [] = refl
taps_are (next ∷ taken) =
    taps_more (taps_from taken) (entries_from taken) next.finding.tap (taps_are taken)

pub legal_taps : (fares : Fares) (taken : List TakenLine) (entries : List Entry)
    (lines : List (List ℕ)) → Legal fares taken entries lines
    → taps_from taken ≡ map tap_of_entry entries
legal_taps fares taken entries lines legal = taps_are taken ∙ ap (map tap_of_entry) legal.same

legal_push : (fares : Fares) (taken : List TakenLine) (next : TakenLine) (entries : List Entry)
    (lines : List (List ℕ)) (entry : Entry)
    → Legal fares taken entries lines
    → Step fares (run_of taken) entries next.line next.finding.tap entry
    → Legal fares (next ∷ taken) (entries ++ entry ∷ []) (lines ++ next.line ∷ [])
legal_push fares taken next entries lines entry legal step =
    let size = length-append entries (entry ∷ []) in
    let before : length taken ≡ length entries + 1 = legal.counted in
    record {
      are = next-push fares [] entries lines entry next.line legal.are step.next;
      state = step.state;
      same = step.more (entries_from taken)
          ∙ ap (λ (es : List Entry). es ++ entry ∷ []) legal.same;
      counted = omega (arith, size, before);
    }

head_tested : (line : List ℕ) (b : Bool) (remark : Remark) → bytes_eq line head_text ≡ b
    → remark ≡ (if b then Nothing else NoLine) → one_wrong remark ≡ 0 → line ≡ head_text
head_tested line true remark same is none = (bytes_eq-Decides line head_text).0 same
head_tested line false remark same is none = absurd (one_zero (ap one_wrong (sym is) ∙ none))

legal_head : (fares : Fares) (first : TakenLine) → first.finding.tap ≡ None
    → Legal fares (first ∷ []) [] []
legal_head fares first none = record {
  are = tt;
  state = inl (ap (λ (t : Option CountedTap). run_with [] t) none, refl);
  same = ap (λ (t : Option CountedTap). entries_with [] t) none;
  counted = refl;
}

-- lines that are all right are a ledger's
pub record Right (fares : Fares) (taken : List TakenLine) : Type 0 where
  pub entries : List Entry
  pub lines : List (List ℕ)
  pub split : lines_from taken ≡ head_text ∷ lines
  pub legal : Legal fares taken entries lines

right_at : (fares : Fares) (next : TakenLine) (taken : List TakenLine)
    → AreTaken fares (next ∷ taken) → wrong_count (next ∷ taken) ≡ 0
    → length (next ∷ taken) ≤ 2 ^ 62 → (0 < length taken → Right fares taken)
    → Right fares (next ∷ taken)
right_at fares first [] are none few before =
    let is = head_tested first.line (bytes_eq first.line head_text) first.finding.remark refl
    are.1.1
    (omega (arith, none)) in record {
      entries = [];
      lines = [];
      split = ap (λ (l : List ℕ). l ∷ []) is;
      legal = legal_head fares first are.1.0;
    }
right_at fares next (last ∷ earlier) are none few before =
    let taken = last ∷ earlier in
    let rest = before (omega arith) in
    let counted : length taken ≡ length rest.entries + 1 = rest.legal.counted in
    let step = right_step fares (run_of taken) rest.entries next.line next.finding.tap
    next.finding.remark next.wanted are.1 (omega (arith, none)) rest.legal.state
    (omega (arith, few, counted)) in record {
      entries = rest.entries ++ step.0 ∷ [];
      lines = rest.lines ++ next.line ∷ [];
      split = ap (λ (ls : List (List ℕ)). ls ++ next.line ∷ []) rest.split;
      legal = legal_push fares taken next rest.entries rest.lines step.0 rest.legal step.1;
    }

pub right : (fares : Fares) (taken : List TakenLine) → AreTaken fares taken → wrong_count taken ≡ 0
    → 0 < length taken → length taken ≤ 2 ^ 62
    → Right fares taken
right fares [] are none some few = absurd (omega (arith, some))
right fares (next ∷ taken) are none some few =
    right_at fares next taken are none few
    (λ more. right fares taken are.0 (omega (arith, none)) more (omega (arith, few)))

-- the line of a ledger's entry names its tap
pub next_line_tap : (fares : Fares) (earlier : List Entry) (entry : Entry) (line : List ℕ)
    → IsNext fares earlier entry line
    → (rest : List ℕ) × IsLineOfTap line entry.token entry.validator entry.moment rest
next_line_tap fares earlier entry line is =
    let few : length earlier < 2 ^ 62 = is.few in
    line_tap fares entry.token (length (own entry.token earlier) + 1) entry _ line is.shown
    (omega (arith, few, own-few entry.token earlier)) is.postable.token is.postable.validator
    is.postable.moment is.short

-- the line of a ledger's entry is right
pub record StepRight (fares : Fares) (run entries : List Entry) (line : List ℕ)
    (tap : Option CountedTap) (remark : Remark) (entry : Entry) : Type 0 where
  pub none : one_wrong remark ≡ 0
  pub step : Step fares run entries line tap entry

pub legal_step : (fares : Fares) (run entries : List Entry) (line : List ℕ) (tap : Option CountedTap)
    (remark : Remark) (wanted : List ℕ) (entry : Entry)
    → IsJudged fares run line tap remark wanted → State run entries
    → IsNext fares entries entry line
    → StepRight fares run entries line tap remark entry
legal_step fares run entries line None remark wanted entry judged state next =
    let reports = next_line_tap fares entries entry line next in
    absurd (judged.0 entry.token entry.validator entry.moment reports.0 reports.1)
legal_step fares run entries line (Some tap) remark wanted entry is state next =
    let reports = next_line_tap fares entries entry line next in
    let same = tap_same_of_line line entry.token tap.entry.token entry.validator tap.entry.validator
    entry.moment tap.entry.moment reports.0 is.rest reports.1 is.of_tap in
    let up = nondecreasing run entries tap.entry.token state
    (subst (λ (t : Token). All (λ (e : Entry). token_number e.token ≤ token_number t) entries)
    same.token_is next.nondecreasing) in
    let all = ruled_of fares run entries line tap remark wanted is state up in
    let one = next_same fares entries entry tap.entry line wanted next
    (ruled_replied fares entries tap.entry all.ruled) all.shown same.token_is same.validator_is
    same.moment_is in
    let is_remark_none : remark ≡ Nothing = is.is_remark
    ∙ ap (λ (b : Bool). remark_for b (bytes_eq line wanted)) up
    ∙ ap (λ (b : Bool). remark_for false b) ((bytes_eq-Decides line wanted).1 one.1) in
    let back : tap.entry ≡ entry = sym one.0 in
    record {
      none = ap one_wrong is_remark_none;
      step = record {
        next = next;
        state = subst
            (λ (e : Entry). State (own tap.entry.token run ++ tap.entry ∷ []) (entries ++ e ∷ []))
            back (state_push run entries tap.entry state is.of_tap.fits up);
        more = λ earlier. ap (λ (e : Entry). earlier ++ e ∷ []) back;
      };
    }

-- lines, the last of which is one
record Snoc (head : List ℕ) (lines before : List (List ℕ)) (last : List ℕ) : Type 0 where
  pub rest : List (List ℕ)
  pub front : before ≡ head ∷ rest
  pub whole : lines ≡ rest ++ last ∷ []

snoc : (head : List ℕ) (lines before : List (List ℕ)) (last : List ℕ) → 0 < length before
    → before ++ last ∷ [] ≡ head ∷ lines → Snoc head lines before last
snoc head lines [] last some is = absurd (omega (arith, some))
snoc head lines (b ∷ before) last some is =
    let first : b ≡ head = cc in
    let rest : before ++ last ∷ [] ≡ lines = cc in
    record { rest = before; front = ap (λ (l : List ℕ). l ∷ before) first; whole = sym rest }

-- the lines of a ledger are all right
pub record AllRight (fares : Fares) (taken : List TakenLine) (entries : List Entry)
    (lines : List (List ℕ)) : Type 0 where
  pub none : wrong_count taken ≡ 0
  pub legal : Legal fares taken entries lines

abbrev pub AllRightOf : Fares → List TakenLine → Type 0
AllRightOf fares taken =
    (entries : List Entry) (lines : List (List ℕ)) → lines_from taken ≡ head_text ∷ lines
    → AreNext fares [] entries lines
    → AllRight fares taken entries lines

all_right_at : (fares : Fares) (next : TakenLine) (taken : List TakenLine)
    → AreTaken fares (next ∷ taken) → AllRightOf fares taken → AllRightOf fares (next ∷ taken)
all_right_at fares first [] are before entries lines split next =
    let head : first.line ≡ head_text = cc in
    let empty : lines ≡ [] = cc in
    let none : entries ≡ [] =
    none_left fares [] entries
    (subst (λ (ls : List (List ℕ)). AreNext fares [] entries ls) empty next) in
    let remark : first.finding.remark ≡ Nothing =
    are.1.1 ∙ ap (λ (b : Bool). if b then Nothing else NoLine)
    ((bytes_eq-Decides first.line head_text).1 head) in
    let here : one_wrong first.finding.remark ≡ 0 = ap one_wrong remark in
    record {
      none = omega (arith, here);
      legal = subst (λ (es : List Entry). Legal fares (first ∷ []) es lines) (sym none)
          (subst (λ (ls : List (List ℕ)). Legal fares (first ∷ []) [] ls) (sym empty)
          (legal_head fares first are.1.0));
    }
all_right_at fares next (last ∷ earlier) are before entries lines split nexts =
    let taken = last ∷ earlier in
    let some : 0 < length (lines_from taken) =
    omega (arith, length-append (lines_from earlier) (last.line ∷ [])) in
    let cut = snoc head_text lines (lines_from taken) next.line some split in
    let parts = next-parts fares [] entries cut.rest next.line []
    (subst (λ (ls : List (List ℕ)). AreNext fares [] entries ls) cut.whole nexts) in
    let rest = before parts.entries cut.rest cut.front parts.are in
    let one = legal_step fares (run_of taken) parts.entries next.line next.finding.tap
    next.finding.remark next.wanted parts.entry are.1 rest.legal.state parts.is in
    let whole : entries ≡ parts.entries ++ parts.entry ∷ [] =
    parts.whole ∙ ap (λ (es : List Entry). parts.entries ++ parts.entry ∷ es)
    (none_left fares _ parts.after parts.rest) in
    let before_none : wrong_count taken ≡ 0 = rest.none in
    let here : one_wrong next.finding.remark ≡ 0 = one.none in
    record {
      none = omega (arith, before_none, here);
      legal = subst (λ (es : List Entry). Legal fares (next ∷ taken) es lines) (sym whole)
          (subst (λ (ls : List (List ℕ)). Legal fares (next ∷ taken)
          (parts.entries ++ parts.entry ∷ []) ls) (sym cut.whole)
          (legal_push fares taken next parts.entries cut.rest parts.entry rest.legal one.step));
    }

nothing : (head : List ℕ) (lines : List (List ℕ)) → [] ≡ head ∷ lines → ⊥
nothing head lines is = cc

pub all_right : (fares : Fares) (taken : List TakenLine) → AreTaken fares taken
    → AllRightOf fares taken
all_right fares [] are = λ entries lines split next. absurd (nothing head_text lines split)
all_right fares (next ∷ taken) are = all_right_at fares next taken are (all_right fares taken are.0)

-- the lines of the text, of which the first may be empty
some_lines : (lines : List (List ℕ)) (head : List ℕ) (rest : List (List ℕ))
    → with_first lines ≡ head ∷ rest → head ≢ [] → lines ≡ head ∷ rest
some_lines [] head rest is other = absurd (other (cc))
some_lines (line ∷ lines) head rest is other = is

some_first : (lines : List (List ℕ)) (head : List ℕ) (rest : List (List ℕ)) → lines ≡ head ∷ rest
    → with_first lines ≡ head ∷ rest
some_first lines head rest is = ap with_first is

taken_some : (lines : List (List ℕ)) (taken : List TakenLine) → with_first lines ≡ lines_from taken
    → 0 < length taken
taken_some [] [] is = absurd (cc)
taken_some (line ∷ lines) [] is = absurd (cc)
taken_some lines (next ∷ taken) is = omega arith

abbrev found_right : (fares : Fares) (text : List ℕ) (taken : List TakenLine)
    → IsFullCheck fares text taken → (entries : List Entry) (of : IsLedgerOf fares entries text)
    → AllRight fares taken entries of.lines
found_right fares text taken full_check entries of =
    all_right fares taken full_check.are entries of.lines
    (sym full_check.split ∙ some_first (lines_of text) head_text of.lines of.split) of.are

pub decides : FullChecksDecide
decides fares text taken full_check = record {
  right = λ none.
      let found = right fares taken full_check.are none
      (taken_some (lines_of text) taken full_check.split) full_check.few in (
        found.entries,
        record {
          lines = found.lines;
          split = some_lines (lines_of text) head_text found.lines (full_check.split ∙ found.split)
              (λ is. absurd (cc));
          are = found.legal.are;
        },
      );
  all_right = λ ledger. (found_right fares text taken full_check ledger.0 ledger.1).none;
  taps = λ entries of.
      legal_taps fares taken entries of.lines (found_right fares text taken full_check entries of).legal;
  entries = λ entries of. (found_right fares text taken full_check entries of).legal.same;
}
