-- What a check of a text in pieces knows, by what its parts found.
use Rattle.std.proofs.Common.{◌≡◌, ℕ, ◌+◌, ◌<◌, ◌≤◌, inl, inr, Bool, true, false, List, [], ◌∷◌}
use Rattle.std.proofs.Common.{◌++◌, length, Option, None, Some, refl, sym, ap, subst, ◌∙◌, arith}
use Rattle.std.proofs.Common.{append_assoc, length-append, string_bytes, if◌then◌else◌}
use Rattle.fare_texts.specs.LedgerLines.{head_text}
use Rattle.histories.specs.{Entry.own, declared.entry.Entry.Entry}
use Rattle.ledger_check.proofs.LineLemmas.{lacks-append, lacks-last, lines-line}
use Rattle.ledger_check.proofs.TokenOrder.{own-few}
use Rattle.ledger_check.specs.FullCheckStates.{AreSums, HasEntries, HasFed, HasRunExplainer}
use Rattle.ledger_check.specs.FullCheckStates.{HasTakenLines, IsKept}
use Rattle.ledger_check.specs.FullChecks.{IsJudged, IsLineOfTap, IsTaken, TakenLine, lines_from}
use Rattle.ledger_check.specs.{FullChecks.run_of, FullChecks.run_with, Lines.IsLine, Lines.Lacks}
use Rattle.ledger_check.specs.{Lines.lines_of, declared.lines_fed.LinesFed.LinesFed}
use Rattle.ledger_check.specs.declared.{lines_fed.LinesTaken.LinesTaken, walk.CountedTap.CountedTap}
use Rattle.ledger_check.specs.declared.walk.{LineFinding.LineFinding, Remark.TheVariants.Nothing}
use Rattle.ledger_check.specs.declared.walk.{Remark.TheVariants.NoLine, Walk.Walk}
use Rattle.ledger_check.specs.inside.FullChecks.{HasFound, HasJudged, IsFirstFinding, next_taken}
use Rattle.std.proofs.lemmas.Slice.Eq.{bytes_eq-Decides}
use Rattle.std.specs.Str.{bytes_eq}
use Rattle.tap_views.specs.declared.token.Token.{Token}
use Rattle.tariffs.specs.Fares.{Fares}

head_short : length head_text ≤ 255
head_short = omega arith

-- a long line is not the head line
long_head : (line : List ℕ) → 255 < length line → bytes_eq line head_text ≡ false
long_head line long = by_test (bytes_eq line head_text) refl
  where
    by_test : (b : Bool) → bytes_eq line head_text ≡ b → bytes_eq line head_text ≡ false
    by_test true same =
        let is : line ≡ head_text = (bytes_eq-Decides line head_text).0 same in
        let short : length line ≤ 255 =
        subst (λ (l : List ℕ). length l ≤ 255) (sym is) head_short in
        absurd (omega (arith, short, long))
    by_test false other = other

-- the first line, of which this was kept
first_kept : (kept whole : List ℕ) (finding : LineFinding) → IsKept kept whole
    → IsFirstFinding kept finding → IsFirstFinding whole finding
first_kept kept whole finding (inl same) is =
    subst (λ (l : List ℕ). IsFirstFinding l finding) same is
first_kept kept whole finding (inr (long, longer)) is = (
  is.0,
  is.1 ∙ ap (λ (b : Bool). if b then Nothing else NoLine)
      (long_head kept long ∙ sym (long_head whole longer)),
)

none_taken : (taken : List TakenLine) → length taken ≡ 0 → taken ≡ []
none_taken [] is = refl
none_taken (next ∷ taken) is = absurd (omega (arith, is))

pub found_first : (fares : Fares) (so_far : LinesTaken) (taken : List TakenLine)
    (kept whole : List ℕ) (finding : LineFinding)
    → HasTakenLines fares so_far taken → so_far.sums.lines ≡ 0 → IsKept kept whole
    → IsFirstFinding kept finding
    → HasFound fares taken whole so_far.walk finding
found_first fares so_far taken kept whole finding lines none same is =
    let empty : taken ≡ [] = none_taken taken (sym lines.sums.lines ∙ none) in
    let first = first_kept kept whole finding same is in
    let run : lines.run ≡ [] = lines.is_run ∙ ap run_of empty in
    subst (λ (ts : List TakenLine). HasFound fares ts whole so_far.walk finding) (sym empty)
    (record {
      is = first;
      explainer = subst (λ (r : List Entry). HasRunExplainer fares so_far.walk.explainer r)
          (run ∙ sym (ap (run_with []) first.0)) lines.explainer;
    })

-- behind the first line a line is judged
judged_taken : (fares : Fares) (taken : List TakenLine) (line : List ℕ) (finding : LineFinding)
    (wanted : List ℕ) → 0 < length taken
    → IsJudged fares (run_of taken) line finding.tap finding.remark wanted
    → IsTaken fares taken (record { line = line; finding = finding; wanted = wanted })
judged_taken fares [] line finding wanted some is = absurd (omega (arith, some))
judged_taken fares (before ∷ earlier) line finding wanted some is = is

pub kept_long : (kept whole : List ℕ) → IsKept kept whole → 255 < length kept → 255 < length whole
kept_long kept whole (inl same) long = subst (λ (l : List ℕ). 255 < length l) same long
kept_long kept whole (inr (left, right)) long = right

kept_short : (kept whole : List ℕ) → IsKept kept whole → length kept ≤ 255 → kept ≡ whole
kept_short kept whole (inl same) short = same
kept_short kept whole (inr (left, right)) short = absurd (omega (arith, left, short))

-- a line that names no tap, and is not the header line
pub names_none : (fares : Fares) (taken : List TakenLine) (line : List ℕ) (finding : LineFinding)
    (wanted : List ℕ) → bytes_eq line head_text ≡ false
    → ((token : Token) (validator moment : ℕ) (rest : List ℕ)
    → IsLineOfTap line token validator moment rest → ⊥)
    → finding.tap ≡ None → finding.remark ≡ NoLine
    → IsTaken fares taken (record { line = line; finding = finding; wanted = wanted })
names_none fares [] line finding wanted other names none reported = (
  none,
  reported ∙ sym (ap (λ (b : Bool). if b then Nothing else NoLine) other),
)
names_none fares (before ∷ earlier) line finding wanted other names none reported =
    rw none (names, reported)

-- so is one that is longer than a ledger's line
pub long_taken : (fares : Fares) (taken : List TakenLine) (line : List ℕ) (finding : LineFinding)
    (wanted : List ℕ) → 255 < length line → finding.tap ≡ None → finding.remark ≡ NoLine
    → IsTaken fares taken (record { line = line; finding = finding; wanted = wanted })
long_taken fares taken line finding wanted long none reported =
    names_none fares taken line finding wanted (long_head line long)
    (λ token validator moment rest is. let short : length line ≤ 255 = is.short in
    omega (arith, long, short)) none reported

pub kept_line : (kept : List ℕ) → length kept ≤ 255
    → (found : (whole : List ℕ) × IsLine whole × IsKept kept whole) → IsLine kept
kept_line kept short (whole, line, same) =
    subst IsLine (sym (kept_short kept whole same short)) line

pub found_long : (fares : Fares) (so_far : LinesTaken) (taken : List TakenLine)
    (kept whole : List ℕ) (finding : LineFinding)
    → HasTakenLines fares so_far taken → IsKept kept whole → 255 < length kept
    → finding.tap ≡ None → finding.remark ≡ NoLine → HasFound fares taken whole so_far.walk finding
found_long fares so_far taken kept whole finding lines same long none reported = record {
  is = long_taken fares taken whole finding (string_bytes so_far.walk.wanted)
      (kept_long kept whole same long) none reported;
  explainer = subst
      (λ (t : Option CountedTap). HasRunExplainer fares so_far.walk.explainer
      (run_with (run_of taken) t)) (sym none)
      (subst (λ (r : List Entry). HasRunExplainer fares so_far.walk.explainer r) lines.is_run
      lines.explainer);
}

pub found_judged : (fares : Fares) (so_far : LinesTaken) (after : Walk) (taken : List TakenLine)
    (kept whole : List ℕ) (finding : LineFinding)
    → (lines : HasTakenLines fares so_far taken) → 0 < so_far.sums.lines → IsKept kept whole
    → length kept ≤ 255
    → HasJudged fares lines.run kept after finding → HasFound fares taken whole after finding
found_judged fares so_far after taken kept whole finding lines some same short judged =
    let counted : so_far.sums.lines ≡ length taken = lines.sums.lines in
    let wanted = string_bytes after.wanted in
    let line = kept_short kept whole same short in
    record {
      is = judged_taken fares taken whole finding wanted (omega (arith, some, counted))
          (subst (λ (r : List Entry). IsJudged fares r whole finding.tap finding.remark wanted)
          lines.is_run
          (subst (λ (l : List ℕ). IsJudged fares lines.run l finding.tap finding.remark wanted) line
          judged.is));
      explainer = subst
          (λ (r : List Entry). HasRunExplainer fares after.explainer (run_with r finding.tap))
          lines.is_run judged.explainer;
    }

-- a run has no more entries than there are lines
few_with : (run : List Entry) (tap : Option CountedTap) (n : ℕ) → length run ≤ n
    → length (run_with run tap) ≤ n + 1
few_with run None n few = omega (arith, few)
few_with run (Some tap) n few =
    let own_few = own-few tap.entry.token run in
    let size = length-append (own tap.entry.token run) (tap.entry ∷ []) in
    omega (arith, few, own_few, size)

-- one line more was taken
pub lines_more : (fares : Fares) (so_far after : LinesTaken) (taken : List TakenLine)
    (line : List ℕ) (finding : LineFinding)
    → (lines : HasTakenLines fares so_far taken) → HasFound fares taken line after.walk finding
    → AreSums after.sums (next_taken line finding after ∷ taken)
    → HasEntries after.entries (next_taken line finding after ∷ taken)
    → HasTakenLines fares after (next_taken line finding after ∷ taken)
lines_more fares so_far after taken line finding lines found sums entries = record {
  are = (lines.are, found.is);
  sums = sums;
  run = run_with (run_of taken) finding.tap;
  is_run = refl;
  few = let size = subst (λ (r : List Entry). length (run_with r finding.tap) ≤ length taken + 1)
      lines.is_run
      (few_with lines.run finding.tap (length taken) lines.few) in
      omega (arith, size);
  explainer = found.explainer;
  entries = entries;
}

pub kept_none : (kept started : List ℕ) → IsKept kept started → kept ≡ [] → started ≡ []
kept_none kept started (inl same) none = sym same ∙ none
kept_none kept started (inr (left, right)) none =
    absurd (omega (arith, left, ap (λ (l : List ℕ). length l) none))

pub none_kept : (kept started : List ℕ) → IsKept kept started → started ≡ [] → kept ≡ []
none_kept kept started (inl same) none = same ∙ none
none_kept kept started (inr (left, right)) none =
    absurd (omega (arith, right, ap (λ (l : List ℕ). length l) none))

-- a piece without a newline
pub split_part : (lines : List (List ℕ)) (text started piece : List ℕ)
    → ((more : List ℕ) → lines_of (text ++ more) ≡ lines ++ lines_of (started ++ more))
    → (more : List ℕ)
    → lines_of ((text ++ piece) ++ more) ≡ lines ++ lines_of ((started ++ piece) ++ more)
split_part lines text started piece split more =
    ap lines_of (append_assoc text piece more) ∙ split (piece ++ more)
    ∙ ap (λ (t : List ℕ). lines ++ lines_of t) (sym (append_assoc started piece more))

pub kept_piece : (fares : Fares) (fed after : LinesFed) (text piece : List ℕ)
    (taken : List TakenLine) → (is : HasFed fares fed text taken) → Lacks 10 piece
    → after.so_far ≡ fed.so_far → IsKept after.started.items (is.started ++ piece)
    → HasFed fares after (text ++ piece) taken
kept_piece fares fed after text piece taken is lacks same kept = record {
  lines = subst (λ (s : LinesTaken). HasTakenLines fares s taken) (sym same) is.lines;
  started = is.started ++ piece;
  kept = kept;
  lacks = lacks-append 10 is.started piece is.lacks lacks;
  split = split_part (lines_from taken) text is.started piece is.split;
}

-- a piece that ends a line
pub split_line_at : (lines : List (List ℕ)) (text started line : List ℕ)
    → ((more : List ℕ) → lines_of (text ++ more) ≡ lines ++ lines_of (started ++ more))
    → Lacks 10 started → IsLine line
    → (more : List ℕ) → lines_of ((text ++ line) ++ more)
    ≡ (lines ++ (started ++ line) ∷ []) ++ lines_of more
split_line_at lines text started line split lacks is more =
    let whole : started ++ line ≡ (started ++ is.front) ++ 10 ∷ [] =
    ap (λ (l : List ℕ). started ++ l) is.shown ∙ sym (append_assoc started is.front (10 ∷ [])) in
    let cut : (started ++ line) ++ more ≡ (started ++ is.front) ++ 10 ∷ more =
    ap (λ (l : List ℕ). l ++ more) whole ∙ append_assoc (started ++ is.front) (10 ∷ []) more in
    split_part lines text started line split more
    ∙ ap (λ (t : List ℕ). lines ++ lines_of t) cut
    ∙ ap (λ (ls : List (List ℕ)). lines ++ ls)
    (lines-line (started ++ is.front) more (lacks-append 10 started is.front lacks is.lacks))
    ∙ ap (λ (l : List ℕ). lines ++ l ∷ lines_of more) (sym whole)
    ∙ sym (append_assoc lines ((started ++ line) ∷ []) (lines_of more))

-- a line that has begun ends with the line behind it
pub line_ends : (started line : List ℕ) → Lacks 10 started → (is : IsLine line)
    → IsLine (started ++ line)
line_ends started line lacks is = record {
  front = started ++ is.front;
  lacks = lacks-append 10 started is.front lacks is.lacks;
  shown = ap (λ (l : List ℕ). started ++ l) is.shown
      ∙ sym (append_assoc started is.front (10 ∷ []));
}

-- the next line was taken, and nothing is started after it
pub took_line_of : (fares : Fares) (fed after : LinesFed) (text line : List ℕ)
    (taken : List TakenLine) (next : TakenLine)
    → (is : HasFed fares fed text taken) → IsLine line → after.started.items ≡ []
    → next.line ≡ is.started ++ line → HasTakenLines fares after.so_far (next ∷ taken)
    → HasFed fares after (text ++ line) (next ∷ taken)
took_line_of fares fed after text line taken next is ends none same took = record {
  lines = took;
  started = [];
  kept = inl none;
  lacks = tt;
  split = λ more. split_line_at (lines_from taken) text is.started line is.split is.lacks ends more
      ∙ ap (λ (l : List ℕ). (lines_from taken ++ l ∷ []) ++ lines_of more) (sym same);
}

-- a line without its newline names no tap
pub cut_line : (line : List ℕ) → Lacks 10 line
    → (token : Token) (validator moment : ℕ) (rest : List ℕ)
    → IsLineOfTap line token validator moment rest → ⊥
cut_line line lacks token validator moment rest is = lacks-last 10 is.front line is.ends lacks
