-- The first wrong line of a text, and what a check up to it knows.
use Rattle.std.proofs.Common.{◌≡◌, ℕ, ◌+◌, ◌^◌, ◌<◌, ◌≤◌, Bool, true, false, List, [], ◌∷◌, ◌++◌}
use Rattle.std.proofs.Common.{length, map, Option, Some, None, refl, sym, ap, subst, ◌∙◌, arith}
use Rattle.std.proofs.Common.{inl, inr, append_assoc, append-nil, length-append, if◌then◌else◌}
use Rattle.std.proofs.Common.{string_bytes, is_some}
use Rattle.fare_texts.specs.LedgerLines.{head_text}
use Rattle.histories.specs.declared.entry.Entry.{Entry}
use Rattle.ledger_check.proofs.EndLemmas.{cut_lines, cut_taken, whole_lines}
use Rattle.ledger_check.proofs.{EntryLists.next-parts, FullCheckLaw.Legal as LegalLines}
use Rattle.ledger_check.proofs.FullCheckLaw.{Right, all_right, legal_step, legal_taps, next_wanted}
use Rattle.ledger_check.proofs.{FullCheckLaw.right, FullCheckLemmas.kept_long}
use Rattle.ledger_check.proofs.{FullCheckLemmas.long_taken, LineLemmas.lines-open, RunLemmas.State}
use Rattle.ledger_check.specs.Balances.{IsBalance}
use Rattle.ledger_check.specs.FullCheckStates.{HasFed, IsFed, IsRightSoFar}
use Rattle.ledger_check.specs.FullChecks.{AreTaken, IsJudged, TakenLine, decreases_after}
use Rattle.ledger_check.specs.FullChecks.{lines_from, one_wrong, remark_for, run_of, taps_from}
use Rattle.ledger_check.specs.FullChecks.{taps_with, with_first, wrong_count}
use Rattle.ledger_check.specs.{Ledger.IsLedgerOf, Ledger.IsNext, Lines.lines_of}
use Rattle.ledger_check.specs.Orders.{early_line, tap_of_entry}
use Rattle.ledger_check.specs.Verdicts.{IsFirstWrong, IsTrueOf, IsVerdict, IsWrongAfter, is_legal}
use Rattle.ledger_check.specs.declared.balance.Balance.{Balance}
use Rattle.ledger_check.specs.declared.checker.{Checker.Checker, Verdict.Verdict}
use Rattle.ledger_check.specs.declared.checker.Verdict.TheVariants.{Legal, Wants as Asks}
use Rattle.ledger_check.specs.declared.checker.Verdict.TheVariants.{NoLine as Refuses}
use Rattle.ledger_check.specs.declared.walk.{CountedTap.CountedTap, LineFinding.LineFinding}
use Rattle.ledger_check.specs.declared.walk.Remark.{Remark}
use Rattle.ledger_check.specs.declared.walk.Remark.TheVariants.{Nothing, NoLine, Wants}
use Rattle.ledger_check.specs.inside.FullChecks.{IsCalled, next_taken}
use Rattle.std.proofs.lemmas.{Bool.true≢false, Slice.Eq.bytes_eq-Decides}
use Rattle.std.specs.Str.{bytes_eq}
use Rattle.tap_views.specs.declared.encoder.TapFields.{TapFields}
use Rattle.tariffs.specs.Fares.{Fares}

-- ---- the first wrong line
unfallen_if : (is_decrease same : Bool) → remark_for is_decrease same ≡ Wants → is_decrease ≡ false
unfallen_if true same is = let bad : ◌≡◌ {A = Remark} NoLine Wants = is in absurd cc
unfallen_if false same is = refl

-- a ledger can have the wanted line in its place
wanted_next : (fares : Fares) (run entries : List Entry) (line : List ℕ) (tap : Option CountedTap)
    (remark : Remark) (wanted : List ℕ) → IsJudged fares run line tap remark wanted
    → remark ≡ Wants → State run entries → length wanted ≤ 255 → length entries < 2 ^ 62
    → (entry : Entry) × IsNext fares entries entry wanted
wanted_next fares run entries line None remark wanted judged is state short few =
    let bad : ◌≡◌ {A = Remark} Wants NoLine = sym is ∙ judged.1 in absurd cc
wanted_next fares run entries line (Some tap) remark wanted judged is state short few = (
  tap.entry,
  next_wanted fares run entries line tap remark wanted judged state
      (unfallen_if (decreases_after run tap.entry.token) (bytes_eq line wanted)
      (sym judged.is_remark ∙ is)) short few,
)

-- a line with a remark, after right lines
module _ (fares : Fares) (last : TakenLine) (earlier : List TakenLine) (next : TakenLine)
    (more : List (List ℕ)) (is_right : Right fares (last ∷ earlier))
    (are : AreTaken fares (next ∷ (last ∷ earlier)))
    (wrong : one_wrong next.finding.remark ≡ 0 → ⊥) where
  no_ledger : IsWrongAfter fares is_right.lines next.line
  no_ledger others nexts =
      let parts = next-parts fares [] others is_right.lines next.line [] nexts in
      let before = all_right fares (last ∷ earlier) are.0 parts.entries is_right.lines
      is_right.split parts.are in
      wrong (legal_step fares (run_of (last ∷ earlier)) parts.entries next.line next.finding.tap
      next.finding.remark next.wanted parts.entry are.1 before.legal.state parts.is).none

  abbrev first_at : (number : ℕ) → number ≡ length (last ∷ earlier) + 1
      → IsFirstWrong fares (lines_from (next ∷ (last ∷ earlier)) ++ more) number
  first_at number counted = record {
    before = is_right.lines;
    line = next.line;
    after = more;
    split = append_assoc (lines_from (last ∷ earlier)) (next.line ∷ []) more
        ∙ ap (λ (ls : List (List ℕ)). ls ++ next.line ∷ more) is_right.split;
    entries = is_right.entries;
    are = is_right.legal.are;
    counted = omega (arith, counted, is_right.legal.counted);
    wrong = no_ledger;
  }

abbrev pub IsFound : Fares → List (List ℕ) → Verdict → Type 0
IsFound fares lines verdict = IsTrueOf fares lines verdict × (is_legal verdict ≡ false)

wrong_head : (line : List ℕ) (remark : Remark) (b : Bool) → bytes_eq line head_text ≡ b
    → remark ≡ (if b then Nothing else NoLine) → (one_wrong remark ≡ 0 → ⊥)
    → (line ≡ head_text → ⊥) × (remark ≡ NoLine)
wrong_head line remark true same is wrong = absurd (wrong (ap one_wrong is))
wrong_head line remark false same is wrong = (
  λ head. let bad : true ≡ false = sym ((bytes_eq-Decides line head_text).1 head) ∙ same in absurd cc,
  is,
)

pub first_wrong : (fares : Fares) (taken : List TakenLine) (next : TakenLine)
    (more : List (List ℕ)) (verdict : Verdict)
    → AreTaken fares (next ∷ taken) → wrong_count taken ≡ 0 → length taken ≤ 2 ^ 62
    → (one_wrong next.finding.remark ≡ 0 → ⊥)
    → IsCalled next.finding.remark (length taken + 1) next.wanted verdict
    → IsFound fares (lines_from (next ∷ taken) ++ more) verdict
first_wrong fares taken next more (Legal entries early) are none few wrong called = absurd called
first_wrong fares [] next more (Asks at text) are none few wrong called =
    let head = wrong_head next.line next.finding.remark _ refl are.1.1 wrong in
    let bad : ◌≡◌ {A = Remark} Wants NoLine = sym called.0 ∙ head.1 in absurd cc
first_wrong fares [] next more (Refuses at) are none few wrong called =
    let head = wrong_head next.line next.finding.remark _ refl are.1.1 wrong in
    (inl (called, λ others is. head.0 (first_line next.line head_text more others is)), refl)
  where
    first_line : (a b : List ℕ) (xs ys : List (List ℕ)) → a ∷ xs ≡ b ∷ ys → a ≡ b
    first_line a b xs ys is = cc
first_wrong fares (last ∷ earlier) next more (Asks at text) are none few wrong called =
    let before = right fares (last ∷ earlier) are.0 none (omega arith) few in
    let counted : length (last ∷ earlier) ≡ length before.entries + 1 = before.legal.counted in
    let wanted = wanted_next fares (run_of (last ∷ earlier)) before.entries next.line
    next.finding.tap next.finding.remark next.wanted are.1 called.0 before.legal.state called.3
    (omega (arith, counted, few)) in (
      record {
        first = first_at fares last earlier next more before are wrong at called.1;
        is = (
          before.entries,
          wanted.0,
          before.legal.are,
          subst (λ (l : List ℕ). IsNext fares before.entries wanted.0 l) (sym called.2) wanted.1,
        );
      },
      refl,
    )
first_wrong fares (last ∷ earlier) next more (Refuses at) are none few wrong called =
    let before = right fares (last ∷ earlier) are.0 none (omega arith) few in
    (inr (first_at fares last earlier next more before are wrong at called), refl)

abbrev no_line : LineFinding
no_line = record { tap = None; remark = NoLine; has_form = false }

no_line_wrong : one_wrong NoLine ≡ 0 → ⊥
no_line_wrong is = absurd (omega (arith, is))

-- ---- what a check knows
module _ (fares : Fares) (checker : Checker) (balance : Balance) (text : List ℕ)
    (valid : List TapFields) (is : IsRightSoFar fares checker balance text valid) where
  abbrev lines : ℕ
  lines = checker.fed.so_far.sums.lines

  counted : lines ≡ length is.taken
  counted = is.fed.lines.sums.lines

  -- a line that has not ended is too long
  pub too_long : 255 < length checker.fed.started.items
      → ((more : List ℕ) → IsVerdict fares (text ++ more) (Refuses (lines + 1)))
      × (is_legal (Refuses (lines + 1)) ≡ false)
  too_long long = (
    λ more.
        let started = is.fed.started in
        let longer = kept_long checker.fed.started.items started is.fed.kept long in
        let opens = lines-open started more is.fed.lacks (omega (arith, longer)) in
        let line = started ++ opens.rest in
        let next : TakenLine = record { line = line; finding = no_line; wanted = [] } in
        let size : 255 < length line = omega (arith, longer, length-append started opens.rest) in
        subst (λ (ls : List (List ℕ)). IsTrueOf fares ls (Refuses (lines + 1)))
        (append_assoc (lines_from is.taken) (line ∷ []) opens.after
        ∙ sym (is.fed.split more ∙ ap (λ (ls : List (List ℕ)). lines_from is.taken ++ ls) opens.is))
        (first_wrong fares is.taken next opens.after (Refuses (lines + 1))
        (is.fed.lines.are, long_taken fares is.taken line no_line [] size refl refl) is.none
        is.fed.lines.sums.few no_line_wrong (ap (λ n. n + 1) counted)).0,
    refl,
  )

  -- the text ends in a line, or has none
  pub ended_in_line : ((0 < lines) × (checker.fed.started.items ≡ []) → ⊥)
      → IsVerdict fares text (Refuses (lines + 1))
  ended_in_line not_whole =
      let next : TakenLine = record { line = is.fed.started; finding = no_line; wanted = [] } in
      let are : AreTaken fares (next ∷ is.taken) = (
        is.fed.lines.are,
        cut_taken fares is.taken is.fed.started no_line is.fed.lacks refl refl,
      ) in
      of_lines (lines_of text) (cut_lines fares checker.fed text is.taken is.fed not_whole)
      (first_wrong fares is.taken next [] (Refuses (lines + 1)) are is.none
      is.fed.lines.sums.few no_line_wrong (ap (λ n. n + 1) counted)).0
    where
      of_lines : (all : List (List ℕ)) → with_first all ≡ lines_from is.taken ++ is.fed.started ∷ []
          → IsTrueOf fares ((lines_from is.taken ++ is.fed.started ∷ []) ++ []) (Refuses (lines + 1))
          → IsTrueOf fares all (Refuses (lines + 1))
      of_lines [] whole found =
          inl (none_taken is.taken counted whole, λ others none. absurd cc)
        where
          none_taken : (taken : List TakenLine) → lines ≡ length taken
              → [] ∷ [] ≡ lines_from taken ++ is.fed.started ∷ [] → lines + 1 ≡ 1
          none_taken [] none same = omega (arith, none)
          none_taken (t ∷ ts) some same = absurd (omega (
            arith,
            ap (λ (ls : List (List ℕ)). length ls) same,
            length-append (lines_from ts ++ t.line ∷ []) (is.fed.started ∷ []),
            length-append (lines_from ts) (t.line ∷ []),
          ))
      of_lines (line ∷ all) whole found =
          subst (λ (ls : List (List ℕ)). IsTrueOf fares ls (Refuses (lines + 1)))
          (append-nil (lines_from is.taken ++ is.fed.started ∷ []) ∙ sym whole) found

  module _ (some : 0 < lines) (ended : checker.fed.started.items ≡ []) where
    whole : lines_of text ≡ lines_from is.taken
    whole = whole_lines fares checker.fed text is.taken is.fed ended

    pub ended_complete : (number : ℕ) (early : Option ℕ) → number + 1 ≡ lines
        → early ≡ early_line (taps_from is.taken) → IsVerdict fares text (Legal number early)
    ended_complete number early size order =
        let found = right fares is.taken is.fed.lines.are is.none (omega (arith, counted, some))
        is.fed.lines.sums.few in
        record {
          others = found.lines;
          split = whole ∙ found.split;
          entries = found.entries;
          are = found.legal.are;
          counted = omega (arith, size, counted, found.legal.counted);
          order = λ of nexts. order ∙ ap early_line
              (legal_taps fares is.taken of found.lines
              (all_right fares is.taken is.fed.lines.are of found.lines found.split nexts).legal);
        }

    pub of_ledger : (entries : List Entry) (of : IsLedgerOf fares entries text)
        → LegalLines fares is.taken entries of.lines
    of_ledger entries of =
        (all_right fares is.taken is.fed.lines.are entries of.lines (sym whole ∙ of.split) of.are).legal

    pub all_subtracted : (entries : List Entry) → IsLedgerOf fares entries text
        → IsBalance balance valid (map tap_of_entry entries)
    all_subtracted entries of = subst (λ (ts : List TapFields). IsBalance balance valid ts)
        (legal_taps fares is.taken entries of.lines (of_ledger entries of)) is.subtracted

-- ---- pieces
abbrev pub kept_right : (fares : Fares) (checker after : Checker) (balance : Balance)
    (text rest : List ℕ) (valid : List TapFields)
    (is : IsRightSoFar fares checker balance text valid)
    → HasFed fares after.fed (text ++ rest) is.taken
    → IsRightSoFar fares after balance (text ++ rest) valid
kept_right fares checker after balance text rest valid is fed =
    record { taken = is.taken; fed = fed; none = is.none; subtracted = is.subtracted }

module _ (fares : Fares) (checker after : Checker) (balance left : Balance) (text line : List ℕ)
    (valid : List TapFields) (is : IsRightSoFar fares checker balance text valid)
    (whole : List ℕ) (finding : LineFinding)
    (fed : HasFed fares after.fed (text ++ line)
    (next_taken whole finding after.fed.so_far ∷ is.taken)) where
  pub right_more : one_wrong finding.remark ≡ 0
      → IsBalance left valid (taps_with (taps_from is.taken) finding.tap)
      → IsRightSoFar fares after left (text ++ line) valid
  right_more none subtracted = record {
    taken = next_taken whole finding after.fed.so_far ∷ is.taken;
    fed = fed;
    none = omega (arith, none, is.none);
    subtracted = subtracted;
  }

  pub found_wrong : (one_wrong finding.remark ≡ 0 → ⊥) → (verdict : Verdict)
      → IsCalled finding.remark after.fed.so_far.sums.lines
      (string_bytes after.fed.so_far.walk.wanted) verdict
      → IsFed fares after left (text ++ line) valid (Some verdict)
  found_wrong wrong verdict called =
      let next = next_taken whole finding after.fed.so_far in
      let counted : after.fed.so_far.sums.lines ≡ length is.taken + 1 =
      let n = fed.lines.sums.lines in omega (arith, n) in
      let found = λ (more : List (List ℕ)). first_wrong fares is.taken next more verdict
      fed.lines.are is.none is.fed.lines.sums.few wrong
      (subst (λ (n : ℕ). IsCalled finding.remark n next.wanted verdict) counted called) in (
        λ more. subst (λ (ls : List (List ℕ)). IsTrueOf fares ls verdict)
            (sym (fed.split more)) (found (lines_of (fed.started ++ more))).0,
        (found []).1,
      )

-- a verdict after a piece is one after all that begins with it
pub fed_more : (fares : Fares) (checker after : Checker) (balance left : Balance)
    (text front rest : List ℕ) (valid : List TapFields) (reported : Option Verdict)
    → is_some reported ≡ true → IsFed fares checker balance (text ++ front) valid reported
    → IsFed fares after left (text ++ (front ++ rest)) valid reported
fed_more fares checker after balance left text front rest valid None is fed = absurd (true≢false (sym is))
fed_more fares checker after balance left text front rest valid (Some verdict) is fed = (
  λ more. subst (λ (t : List ℕ). IsVerdict fares t verdict)
      (sym (append_assoc (text ++ front) rest more)
      ∙ ap (λ (t : List ℕ). t ++ more) (append_assoc text front rest)) (fed.0 (rest ++ more)),
  fed.1,
)

pub fed_none : (fares : Fares) (checker : Checker) (balance : Balance) (text : List ℕ)
    (valid : List TapFields) (reported : Option Verdict) → is_some reported ≡ false
    → IsFed fares checker balance text valid reported → IsRightSoFar fares checker balance text valid
fed_none fares checker balance text valid None is fed = fed
fed_none fares checker balance text valid (Some verdict) is fed = absurd (true≢false is)
