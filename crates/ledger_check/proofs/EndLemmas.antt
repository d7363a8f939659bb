-- The end of a text that a recount has read.
use Rattle.std.proofs.Common.{◌≡◌, ℕ, ◌+◌, ◌<◌, Bool, true, false, List, [], ◌∷◌, ◌++◌, length}
use Rattle.std.proofs.Common.{Option, None, refl, sym, ap, subst, ◌∙◌, arith, append-nil}
use Rattle.std.proofs.Common.{length-append}
use Rattle.fare_texts.specs.LedgerLines.{head_text}
use Rattle.ledger_check.proofs.FullCheckLemmas.{cut_line, kept_none, names_none, none_kept}
use Rattle.ledger_check.proofs.{LineEnds.head_ends, LineLemmas.lines-part}
use Rattle.ledger_check.specs.FullBalances.{IsFullBalance}
use Rattle.ledger_check.specs.FullCheckStates.{AreSums, HasFed, HasFullyChecked}
use Rattle.ledger_check.specs.FullChecks.{IsTaken, TakenLine, lines_from, no_line_text, taps_from}
use Rattle.ledger_check.specs.FullChecks.{one_wrong, wrong_count, taps_with, remark_lines}
use Rattle.ledger_check.specs.{FullChecks.remark_text, FullChecks.with_first, Lines.Lacks}
use Rattle.ledger_check.specs.{Lines.lines_of, declared.full_balance.FullBalance.FullBalance}
use Rattle.ledger_check.specs.declared.full_check.FullCheck.{FullCheck}
use Rattle.ledger_check.specs.declared.full_check_sums.FullCheckSums.{FullCheckSums}
use Rattle.ledger_check.specs.declared.{lines_fed.LinesFed.LinesFed, walk.CountedTap.CountedTap}
use Rattle.ledger_check.specs.declared.walk.{LineFinding.LineFinding, Remark.Remark}
use Rattle.ledger_check.specs.{declared.walk.Remark.TheVariants.NoLine, inside.FullChecks.HasEnded}
use Rattle.std.proofs.lemmas.Slice.Eq.{bytes_eq-Decides}
use Rattle.std.specs.Str.{bytes_eq}
use Rattle.tap_views.specs.declared.encoder.TapFields.{TapFields}
use Rattle.tariffs.specs.Fares.{Fares}

no_lines : lines_of [] ≡ []
unfolding lines_of
no_lines = refl

lines_at_end : (lines : List (List ℕ)) (text started : List ℕ)
    → ((more : List ℕ) → lines_of (text ++ more) ≡ lines ++ lines_of (started ++ more))
    → lines_of text ≡ lines ++ lines_of started
lines_at_end lines text started split =
    ap lines_of (sym (append-nil text)) ∙ split []
    ∙ ap (λ (b : List ℕ). lines ++ lines_of b) (append-nil started)

with_first_some : (lines : List (List ℕ)) → 0 < length lines → with_first lines ≡ lines
with_first_some [] some = absurd (omega (arith, some))
with_first_some (line ∷ lines) some = refl

lines_some : (taken : List TakenLine) → 0 < length taken → 0 < length (lines_from taken)
lines_some [] some = absurd (omega (arith, some))
lines_some (next ∷ taken) some = omega (arith, length-append (lines_from taken) (next.line ∷ []))

pub whole_lines : (fares : Fares) (fed : LinesFed) (text : List ℕ) (taken : List TakenLine)
    → HasFed fares fed text taken → fed.started.items ≡ [] → lines_of text ≡ lines_from taken
whole_lines fares fed text taken is none =
    lines_at_end (lines_from taken) text is.started is.split
    ∙ ap (λ (b : List ℕ). lines_from taken ++ lines_of b)
    (kept_none fed.started.items is.started is.kept none)
    ∙ ap (λ (ls : List (List ℕ)). lines_from taken ++ ls) no_lines
    ∙ append-nil (lines_from taken)

-- the text ends after a line
pub ended_whole : (fares : Fares) (full_check : FullCheck) (subtracts : Bool) (full : FullBalance)
    (text written : List ℕ) (valid : List TapFields) (reported : List ℕ)
    → HasFullyChecked fares full_check subtracts full text written valid
    → 0 < full_check.fed.so_far.sums.lines
    → full_check.fed.started.items ≡ []
    → HasEnded fares full_check.fed subtracts full text written valid full_check.fed.so_far.sums
    reported reported
ended_whole fares full_check subtracts full text written valid reported is some none =
    let counted : full_check.fed.so_far.sums.lines ≡ length is.taken = is.fed.lines.sums.lines in
    record {
      taken = is.taken;
      full_check = record {
        split = ap with_first (whole_lines fares full_check.fed text is.taken is.fed none)
            ∙ with_first_some (lines_from is.taken)
            (lines_some is.taken (omega (arith, some, counted)));
        are = is.fed.lines.are;
        few = is.fed.lines.sums.few;
      };
      sums_are = is.fed.lines.sums;
      more = [];
      grown = sym (append-nil reported);
      all = append-nil written ∙ is.reported;
      subtracted = is.subtracted;
      whole = λ _. is.fed;
    }

-- the text's end cuts a line, or the text has none
pub cut_taken : (fares : Fares) (taken : List TakenLine) (line : List ℕ) (finding : LineFinding)
    → Lacks 10 line → finding.tap ≡ None → finding.remark ≡ NoLine
    → IsTaken fares taken (record { line = line; finding = finding; wanted = [] })
cut_taken fares taken line finding lacks none reported =
    names_none fares taken line finding [] (by_test (bytes_eq line head_text) refl)
    (cut_line line lacks) none reported
  where
    by_test : (b : Bool) → bytes_eq line head_text ≡ b → bytes_eq line head_text ≡ false
    by_test true same = absurd (head_ends line lacks ((bytes_eq-Decides line head_text).0 same))
    by_test false other = other

lines_cut : (taken : List TakenLine) (text started : List ℕ)
    → lines_of text ≡ lines_from taken ++ lines_of started → Lacks 10 started
    → ((0 < length taken) × (started ≡ []) → ⊥)
    → with_first (lines_of text) ≡ lines_from taken ++ started ∷ []
lines_cut [] text [] lines lacks not_whole = ap with_first (lines ∙ no_lines)
lines_cut (next ∷ taken) text [] lines lacks not_whole = absurd (not_whole (omega arith, refl))
lines_cut taken text (byte ∷ started) lines lacks not_whole =
    let all : lines_of text ≡ lines_from taken ++ (byte ∷ started) ∷ [] =
    lines ∙ ap (λ (ls : List (List ℕ)). lines_from taken ++ ls)
    (lines-part (byte ∷ started) lacks (omega arith)) in
    ap with_first all ∙ with_first_some (lines_from taken ++ (byte ∷ started) ∷ [])
    (omega (arith, length-append (lines_from taken) ((byte ∷ started) ∷ [])))

-- the lines, of which the last has not ended
pub cut_lines : (fares : Fares) (fed : LinesFed) (text : List ℕ) (taken : List TakenLine)
    (is : HasFed fares fed text taken)
    → ((0 < fed.so_far.sums.lines) × (fed.started.items ≡ []) → ⊥)
    → with_first (lines_of text) ≡ lines_from taken ++ is.started ∷ []
cut_lines fares fed text taken is not_whole =
    let counted : fed.so_far.sums.lines ≡ length taken = is.lines.sums.lines in
    lines_cut taken text is.started (lines_at_end (lines_from taken) text is.started is.split)
    is.lacks (λ whole. not_whole (
      subst (λ (n : ℕ). 0 < n) (sym counted) whole.0,
      none_kept fed.started.items is.started is.kept whole.1,
    ))

pub ended_cut : (fares : Fares) (full_check : FullCheck) (subtracts : Bool) (full : FullBalance)
    (text written : List ℕ) (valid : List TapFields) (finding : LineFinding) (sums : FullCheckSums)
    (reported reported' : List ℕ)
    → (is : HasFullyChecked fares full_check subtracts full text written valid)
    → ((0 < full_check.fed.so_far.sums.lines) × (full_check.fed.started.items ≡ []) → ⊥)
    → finding.tap ≡ None → finding.remark ≡ NoLine
    → ((taken : List TakenLine) (next : TakenLine) → next.finding ≡ finding
    → AreSums full_check.fed.so_far.sums taken → AreSums sums (next ∷ taken))
    → reported' ≡ reported ++ no_line_text sums.lines
    → HasEnded fares full_check.fed subtracts full text written valid sums reported reported'
ended_cut fares full_check subtracts full text written valid finding sums reported reported' is
    not_whole
    none
    no_line grows grown =
    let next : TakenLine = record { line = is.fed.started; finding = finding; wanted = [] } in
    let all = grows is.taken next refl is.fed.lines.sums in
    let number : sums.lines ≡ length is.taken + 1 = let n = all.lines in omega (arith, n) in
    record {
      taken = next ∷ is.taken;
      full_check = record {
        split = cut_lines fares full_check.fed text is.taken is.fed not_whole;
        are = (is.fed.lines.are, cut_taken fares is.taken is.fed.started finding is.fed.lacks none no_line);
        few = all.few;
      };
      sums_are = all;
      more = no_line_text sums.lines;
      grown = grown;
      all = ap (λ (w : List ℕ). w ++ no_line_text sums.lines) is.reported
          ∙ ap (λ (t : List ℕ). remark_lines is.taken ++ t)
          (ap no_line_text number ∙ sym (remark_no_line (length is.taken + 1) finding no_line));
      subtracted = λ subtract. taps_none (is.subtracted subtract);
      whole = λ right. absurd (some_wrong right);
    }
  where
    some_wrong : wrong_count is.taken + one_wrong finding.remark ≡ 0 → ⊥
    some_wrong right =
        let one : one_wrong finding.remark ≡ 1 = ap one_wrong no_line in omega (arith, right, one)

    remark_no_line : (number : ℕ) (finding : LineFinding) → finding.remark ≡ NoLine
        → remark_text number finding.remark [] ≡ no_line_text number
    remark_no_line number finding is_remark_none =
        ap (λ (t : Remark). remark_text number t []) is_remark_none

    taps_none : IsFullBalance full valid (taps_from is.taken)
        → IsFullBalance full valid (taps_with (taps_from is.taken) finding.tap)
    taps_none subtracted = subst
        (λ (t : Option CountedTap). IsFullBalance full valid (taps_with (taps_from is.taken) t))
        (sym none) subtracted
