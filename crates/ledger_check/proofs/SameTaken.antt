-- The same lines are taken alike, so that what is reported of the first lines of a text is what
-- each recount of the text reports of them.
use Rattle.std.proofs.Common.{◌≡◌, ℕ, suc, ◌+◌, Bool, true, false, List, [], ◌∷◌, ◌++◌, length}
use Rattle.std.proofs.Common.{Option, None, Some, refl, sym, ap, subst, ◌∙◌, ◌⊎◌, inl, inr, arith}
use Rattle.std.proofs.Common.{⊎_elim, append_assoc, append-nil, length-append, if◌then◌else◌}
use Rattle.fare_texts.specs.Explainers.{next_entry}
use Rattle.fare_texts.specs.LedgerLines.{IsLedgerLineAfter, head_text, reason_after}
use Rattle.histories.specs.{Entry.own, declared.entry.Entry.Entry}
use Rattle.ledger_check.proofs.{FrontLemmas.tap_same_of_line, SameLines.line_same}
use Rattle.ledger_check.specs.FirstLines.{FullChecksGoOn}
use Rattle.ledger_check.specs.FullChecks.{AreTaken, IsCounted, IsJudged, IsTaken, TakenLine}
use Rattle.ledger_check.specs.FullChecks.{end_text, decreases_after, lines_from, remark_for}
use Rattle.ledger_check.specs.FullChecks.{remark_lines, remark_text, run_of, run_with, with_first}
use Rattle.ledger_check.specs.{Lines.lines_of, declared.walk.CountedTap.CountedTap}
use Rattle.ledger_check.specs.declared.walk.Remark.{Remark, TheVariants.Nothing, TheVariants.NoLine}
use Rattle.std.specs.Str.{bytes_eq}
use Rattle.tap_views.specs.declared.token.Token.{Token}
use Rattle.tariffs.specs.Fares.{Fares}

-- ---- one line
-- a line that names a tap has one entry, one remark and one wanted line; its cents are left out
record SameCounted (a b : CountedTap) (remark remark' : Remark) (wanted wanted' : List ℕ)
    : Type 0 where
  pub entry : a.entry ≡ b.entry
  pub remarks : remark ≡ remark'
  pub wants : wanted ≡ wanted'

counted_same : (fares : Fares) (run : List Entry) (line : List ℕ) (a b : CountedTap)
    (remark remark' : Remark) (wanted wanted' : List ℕ)
    → IsCounted fares run line a remark wanted → IsCounted fares run line b remark' wanted'
    → SameCounted a b remark remark' wanted wanted'
counted_same fares run line a b remark remark' wanted wanted' is also =
    let of = tap_same_of_line line a.entry.token b.entry.token a.entry.validator b.entry.validator
    a.entry.moment b.entry.moment is.rest also.rest is.of_tap also.of_tap in
    let entry : a.entry ≡ b.entry =
    is.ruled
    ∙ ap (λ (t : Token). next_entry fares t (own t run) a.entry.validator a.entry.moment)
    of.token_is
    ∙ ap (λ (v : ℕ). next_entry fares b.entry.token (own b.entry.token run) v a.entry.moment)
    of.validator_is
    ∙ ap (λ (m : ℕ). next_entry fares b.entry.token (own b.entry.token run) b.entry.validator m)
    of.moment_is
    ∙ sym also.ruled in
    let wants : wanted ≡ wanted' =
    line_same fares b.entry.token (length (own b.entry.token run) + 1) b.entry
    (reason_after fares b.entry.token (own b.entry.token run) b.entry) wanted wanted'
    (subst (λ (e : Entry). IsLedgerLineAfter fares e.token (own e.token run) e wanted) entry
    is.shown)
    also.shown in
    record {
      entry = entry;
      remarks = is.is_remark
          ∙ ap (λ (e : Entry). remark_for (decreases_after run e.token) (bytes_eq line wanted))
          entry
          ∙ ap (λ (w : List ℕ). remark_for (decreases_after run b.entry.token) (bytes_eq line w))
          wants
          ∙ sym also.is_remark;
      wants = wants;
    }

-- what is found of one line, as far as it is reported and as later lines depend on it
record SameFinding (run : List Entry) (a b : Option CountedTap) (remark remark' : Remark)
    (wanted wanted' : List ℕ) : Type 0 where
  pub run_is : run_with run a ≡ run_with run b
  pub text : (number : ℕ) → remark_text number remark wanted ≡ remark_text number remark' wanted'

judged_same : (fares : Fares) (run : List Entry) (line : List ℕ) (a b : Option CountedTap)
    (remark remark' : Remark) (wanted wanted' : List ℕ)
    → IsJudged fares run line a remark wanted → IsJudged fares run line b remark' wanted'
    → SameFinding run a b remark remark' wanted wanted'
judged_same fares run line None None remark remark' wanted wanted' is also = record {
  run_is = refl;
  text = λ number. ap (λ (r : Remark). remark_text number r wanted) is.1
      ∙ sym (ap (λ (r : Remark). remark_text number r wanted') also.1);
}
judged_same fares run line None (Some b) remark remark' wanted wanted' is also = absurd
    (is.0 b.entry.token b.entry.validator b.entry.moment also.rest also.of_tap)
judged_same fares run line (Some a) None remark remark' wanted wanted' is also = absurd
    (also.0 a.entry.token a.entry.validator a.entry.moment is.rest is.of_tap)
judged_same fares run line (Some a) (Some b) remark remark' wanted wanted' is also =
    let same = counted_same fares run line a b remark remark' wanted wanted' is also in record {
      run_is = ap (λ (e : Entry). own e.token run ++ e ∷ []) same.entry;
      text = λ number. ap (λ (r : Remark). remark_text number r wanted) same.remarks
          ∙ ap (λ (w : List ℕ). remark_text number remark' w) same.wants;
    }

-- of the first line nothing is wanted
head_text_same : (number : ℕ) (is_head : Bool) (wanted wanted' : List ℕ)
    → remark_text number (if is_head then Nothing else NoLine) wanted
    ≡ remark_text number (if is_head then Nothing else NoLine) wanted'
head_text_same number true wanted wanted' = refl
head_text_same number false wanted wanted' = refl

first_same : (x y : TakenLine) (fares : Fares) → x.line ≡ y.line → IsTaken fares [] x
    → IsTaken fares [] y
    → SameFinding [] x.finding.tap y.finding.tap x.finding.remark y.finding.remark x.wanted y.wanted
first_same x y fares line is also =
    let remark : x.finding.remark ≡ (if bytes_eq y.line head_text then Nothing else NoLine) =
    is.1 ∙ ap (λ (l : List ℕ). if bytes_eq l head_text then Nothing else NoLine) line in
    let tap = is.0 ∙ sym also.0 in record {
      run_is = ap (run_with []) tap;
      text = λ number. ap (λ (r : Remark). remark_text number r x.wanted) remark
          ∙ head_text_same number (bytes_eq y.line head_text) x.wanted y.wanted
          ∙ sym (ap (λ (r : Remark). remark_text number r y.wanted) also.1);
    }

-- ---- all lines
-- lines that were taken report the same, and later lines are taken alike behind them
pub record SameTaken (a b : List TakenLine) : Type 0 where
  pub run : run_of a ≡ run_of b
  pub remarks : remark_lines a ≡ remark_lines b
  pub counted : length a ≡ length b

taken_same : (fares : Fares) (a b : List TakenLine) (x y : TakenLine) → SameTaken a b
    → x.line ≡ y.line → IsTaken fares a x → IsTaken fares b y
    → SameFinding (run_of a) x.finding.tap y.finding.tap x.finding.remark y.finding.remark x.wanted
    y.wanted
taken_same fares [] [] x y same line is also = first_same x y fares line is also
taken_same fares [] (d ∷ b) x y same line is also = absurd (omega (arith, same.counted))
taken_same fares (c ∷ a) [] x y same line is also = absurd (omega (arith, same.counted))
taken_same fares (c ∷ a) (d ∷ b) x y same line is also =
    judged_same fares (run_of (c ∷ a)) x.line x.finding.tap y.finding.tap x.finding.remark
    y.finding.remark x.wanted y.wanted is
    (subst (λ (l : List ℕ). IsJudged fares (run_of (c ∷ a)) l y.finding.tap y.finding.remark
    y.wanted)
    (sym line)
    (subst (λ (r : List Entry). IsJudged fares r y.line y.finding.tap y.finding.remark y.wanted)
    (sym same.run) also))

one_more : (a b : List TakenLine) (x y : TakenLine) → SameTaken a b
    → SameFinding (run_of a) x.finding.tap y.finding.tap x.finding.remark y.finding.remark x.wanted
    y.wanted → SameTaken (x ∷ a) (y ∷ b)
one_more a b x y same found = record {
  run = found.run_is ∙ ap (λ (r : List Entry). run_with r y.finding.tap) same.run;
  remarks = ap (λ (t : List ℕ). t ++ remark_text (length a + 1) x.finding.remark x.wanted)
      same.remarks
      ∙ ap (λ (t : List ℕ). remark_lines b ++ t) (found.text (length a + 1)
      ∙ ap (λ (n : ℕ). remark_text (n + 1) y.finding.remark y.wanted) same.counted);
  counted = ap (λ (n : ℕ). suc n) same.counted;
}

-- lists with one more at their ends
record SameEnds (a b : List (List ℕ)) (x y : List ℕ) : Type 0 where
  pub front : a ≡ b
  pub last : x ≡ y

no_end : (a : List (List ℕ)) (x : List ℕ) → [] ≡ a ++ x ∷ [] → ⊥
no_end a x is = omega (arith, ap (λ (l : List (List ℕ)). length l) is, length-append a (x ∷ []))

ends_same : (a b : List (List ℕ)) (x y : List ℕ) → a ++ x ∷ [] ≡ b ++ y ∷ [] → SameEnds a b x y
ends_same [] [] x y is = record { front = refl; last = cc }
ends_same [] (d ∷ b) x y is = absurd (no_end b y (cc))
ends_same (c ∷ a) [] x y is = absurd (no_end a x (cc))
ends_same (c ∷ a) (d ∷ b) x y is =
    let heads : c ≡ d = cc in
    let tails : a ++ x ∷ [] ≡ b ++ y ∷ [] = cc in
    let rest = ends_same a b x y tails in
    let fronts : a ≡ b = rest.front in
    record { front = cc; last = rest.last }

-- the same lines are taken alike
pub same_taken : (fares : Fares) (a b : List TakenLine) → AreTaken fares a → AreTaken fares b
    → lines_from a ≡ lines_from b → SameTaken a b
same_taken fares [] [] is also same =
    record { run = refl; remarks = refl; counted = refl }
same_taken fares [] (y ∷ b) is also same = absurd (no_end (lines_from b) y.line same)
same_taken fares (x ∷ a) [] is also same = absurd (no_end (lines_from a) x.line (sym same))
same_taken fares (x ∷ a) (y ∷ b) is also same =
    let ends = ends_same (lines_from a) (lines_from b) x.line y.line same in
    let before = same_taken fares a b is.0 also.0 ends.front in
    one_more a b x y before (taken_same fares a b x y before ends.last is.1 also.1)

-- ---- the first lines
ends_or_none : (lines : List (List ℕ)) → (lines ≡ [])
    ⊎ ((front : List (List ℕ)) × (last : List ℕ) × (lines ≡ front ++ last ∷ []))
ends_or_none [] = inl refl
ends_or_none (line ∷ lines) = ⊎_elim
    (λ none. inr ([], line, ap (λ (ls : List (List ℕ)). line ∷ ls) none))
    (λ some. inr (line ∷ some.0, some.1, ap (λ (ls : List (List ℕ)). line ∷ ls) some.2))
    (ends_or_none lines)

-- the first of the lines that were taken
record Front (fares : Fares) (taken : List TakenLine) (lines : List (List ℕ)) : Type 0 where
  pub front : List TakenLine
  pub are : AreTaken fares front
  pub split : lines_from front ≡ lines
  pub more : List ℕ
  pub whole : remark_lines taken ≡ remark_lines front ++ more

nothing_left : (lines rest : List (List ℕ)) → [] ≡ lines ++ rest → [] ≡ lines
nothing_left [] rest is = refl
nothing_left (line ∷ lines) rest is = cc

front_at : (fares : Fares) (next : TakenLine) (taken : List TakenLine) (lines rest : List (List ℕ))
    → AreTaken fares (next ∷ taken) → lines_from (next ∷ taken) ≡ lines ++ rest
    → ((front : List (List ℕ)) → lines_from taken ≡ lines ++ front → Front fares taken lines)
    → Front fares (next ∷ taken) lines
front_at fares next taken lines rest are is before = ⊎_elim
    (λ none. record {
      front = next ∷ taken;
      are = are;
      split = is ∙ ap (λ (ls : List (List ℕ)). lines ++ ls) none ∙ append-nil lines;
      more = [];
      whole = sym (append-nil (remark_lines (next ∷ taken)));
    })
    (λ some.
    let ends = ends_same (lines_from taken) (lines ++ some.0) next.line some.1
    (is ∙ ap (λ (ls : List (List ℕ)). lines ++ ls) some.2
    ∙ sym (append_assoc lines some.0 (some.1 ∷ []))) in
    let found = before some.0 ends.front in
    let last = remark_text (length taken + 1) next.finding.remark next.wanted in
    record {
      front = found.front;
      are = found.are;
      split = found.split;
      more = found.more ++ last;
      whole = ap (λ (t : List ℕ). t ++ last) found.whole
          ∙ append_assoc (remark_lines found.front) found.more last;
    })
    (ends_or_none rest)

front_of : (fares : Fares) (taken : List TakenLine) (lines rest : List (List ℕ))
    → AreTaken fares taken → lines_from taken ≡ lines ++ rest → Front fares taken lines
front_of fares [] lines rest are is = record {
  front = [];
  are = tt;
  split = nothing_left lines rest is;
  more = [];
  whole = refl;
}
front_of fares (next ∷ taken) lines rest are is = front_at fares next taken lines rest are is
    (λ front split. front_of fares taken lines front are.0 split)

no_lines : (taken : List TakenLine) (rest : List (List ℕ)) → [] ≡ lines_from taken ++ rest
    → remark_lines taken ≡ []
no_lines [] rest is = refl
no_lines (next ∷ taken) rest is = absurd
    (omega (
      arith,
      ap (λ (l : List (List ℕ)). length l) is,
      length-append (lines_from taken ++ next.line ∷ []) rest,
      length-append (lines_from taken) (next.line ∷ []),
    ))

-- what a recount of a text reports goes on behind what is reported of the text's first lines
lines_go_on : (fares : Fares) (lines rest : List (List ℕ)) (first taken : List TakenLine)
    → AreTaken fares first → lines ≡ lines_from first ++ rest
    → AreTaken fares taken → with_first lines ≡ lines_from taken
    → (more : List ℕ) × (remark_lines taken ≡ remark_lines first ++ more)
lines_go_on fares [] rest first taken are is also split = (
  remark_lines taken,
  sym (ap (λ (t : List ℕ). t ++ remark_lines taken) (no_lines first rest is)),
)
lines_go_on fares (line ∷ lines) rest first taken are is also split =
    let front = front_of fares taken (lines_from first) rest also (sym split ∙ is) in
    let same = same_taken fares first front.front are front.are (sym front.split) in (
      front.more,
      front.whole ∙ ap (λ (t : List ℕ). t ++ front.more) (sym same.remarks),
    )

pub go_on : FullChecksGoOn
go_on fares text first taken begins full_check =
    let (more, is) = lines_go_on fares (lines_of text) begins.rest first taken begins.are
    begins.split
    full_check.are full_check.split in (
      more ++ end_text taken,
      ap (λ (t : List ℕ). t ++ end_text taken) is
          ∙ append_assoc (remark_lines first) more (end_text taken),
    )
