-- Ledgers of parts, as they are printed, are merged into the ledger of the whole.
use Rattle.std.proofs.Common.{◌≡◌, ◌∙◌, ℕ, Bool, true, false, List, [], ◌∷◌, ◌++◌, length, map}
use Rattle.std.proofs.Common.{Option, None, Result, Ok, Err, refl, sym, ap, arith, append_assoc}
use Rattle.std.proofs.Common.{codes, cond}
use Rattle.fare_texts.specs.{LedgerLines.head_text, ReportLines.number_line}
use Rattle.line_folds.specs.Folds.{lines_of}
use Rattle.part_texts.proofs.{Leads.by_both, Leads.by_line, Runs.stopped}
use Rattle.part_texts.proofs.ShownFronts.{FrontLeads, head_taken, spans_taken}
use Rattle.part_texts.proofs.ShownParts.{IsFrontRead, are_opened, fronts_shown, left_shown}
use Rattle.part_texts.specs.{Fronts.FrontsView, Fronts.no_fronts, Fronts.no_sums, Heads.span_lines}
use Rattle.part_texts.specs.Merged.{PartView, and_then, ended, lines_left, merge_of, merged}
use Rattle.part_texts.specs.Merged.{read_all, read_of, report_front}
use Rattle.part_texts.specs.declared.fronts.Stage.{Stage, TheVariants.Head, TheVariants.Entries}
use Rattle.part_texts.specs.inside.Shown.{are_next}
use Rattle.part_texts.specs.inside.ShownLedgers.{PartLedger, all_lines, IsNextLedger, ledger_text}
use Rattle.report_texts.proofs.OneLine.{IsOneLine, tested}
use Rattle.sorted_taps.specs.declared.positions.Position.{Position}

-- ---- one front
-- where the fold stands behind ledgers (if so) that end so
abbrev ledger_at : Bool → Bool → Stage → Bool × List (Option Position) → FrontsView
ledger_at first last stage before = record {
  stage = stage;
  is_first = first;
  is_last = last;
  is_ledger = before.0;
  ends = before.1;
  taps = [];
  part = no_sums;
  so_far = no_sums;
  totals = no_sums;
  validators = [];
  tokens = 0;
  last = None;
}

head_is_one : IsOneLine 1000 head_text
head_is_one = record {
  front = codes
      "token,line,moment,validator,mode,answer,cents,window_start,window_end,ride,reason,points_at";
  no_feed = tested (codes
      "token,line,moment,validator,mode,answer,cents,window_start,window_end,ride,reason,points_at")
      refl;
  short = omega arith;
  shown = refl;
}

-- the part whose front is read
abbrev pub ledger_opened : ℕ → PartLedger → PartView
ledger_opened number p = record {
  stage = Entries true;
  part = no_sums;
  number = number;
  lines = lines_of p.lines;
}

abbrev IsAfter : Bool × List (Option Position) → FrontsView → Type 0
IsAfter before s = (first last : Bool) × (stage : Stage) × (s ≡ ledger_at first last stage before)

front_shown : (position : ℕ) (first last : Bool) (s : FrontsView) (p : PartLedger)
    (before after : Bool × List (Option Position)) → IsNextLedger first last before p after
    → IsAfter before s
    → IsFrontRead ledger_text (λ p. p.lines) ledger_opened IsNextLedger IsAfter position first last s p after
front_shown position first last s p before after is (f, l, stage, same) =
    let n = length p.spans in
    let s0 = ledger_at first last Head before in
    let s1 : FrontsView = record s0 { ends = after.1 } in
    let t : FrontsView = record s1 { stage = Entries true; is_ledger = true } in
    let front = number_line (codes "part files ") n ++ span_lines 0 p.spans in
    let lead : FrontLeads s0 (front ++ head_text) t =
    by_both (by_both (head_taken s0 n is.few is.files)
    (spans_taken s0 n 0 after.1 p.spans (omega arith) is.few is.fit is.joined))
    (by_line head_is_one refl (rw is.kind)) in
    let (number, read) = lead.on 1 p.lines in
    record {
      next = t;
      number = number;
      now = (first, last, Entries true, rw is.ledger);
      read = ap (λ (x : FrontsView). read_of false position 1 (record x {
        stage = Head;
        is_first = first;
        is_last = last;
        part = no_sums;
        so_far = no_sums;
      }) (lines_of (ledger_text p))) same
          ∙ ap (λ text. read_of false position 1 s0 (lines_of text))
          (sym (append_assoc front head_text p.lines))
          ∙ ap (ended false position) (read ∙ stopped false number t (lines_of p.lines) refl);
      is = refl;
    }

-- the fronts are read, and the head line and all lines are written, if the lines may follow
fronts_merge : (p : PartLedger) (ps : List PartLedger) (all : Bool × List (Option Position))
    → are_next IsNextLedger true (false, []) (p ∷ ps) all
    → (opens : List PartView)
    × are_opened ledger_text (λ p. p.lines) ledger_opened IsNextLedger IsAfter (p ∷ ps) opens
    × (merge_of (map ledger_text (p ∷ ps))
    ≡ and_then (read_all true no_fronts [] opens) (λ end. Ok (head_text ++ all_lines (p ∷ ps))))
fronts_merge p ps all are =
    let fronts = fronts_shown ledger_text (λ p. p.lines) ledger_opened IsNextLedger IsAfter front_shown
    no_fronts [] (p ∷ ps) (false, []) all are (true, false, Head, refl) in
    let (f, l, stage, same) = fronts.now in (
      fronts.more,
      fronts.opened,
      ap (λ r. and_then r merged) (fronts.read ∙ ap (λ (s : FrontsView). Ok (s, fronts.more)) same)
          ∙ ap (λ (b : Bool). and_then (read_all true no_fronts [] fronts.more) (λ end.
          Ok (cond b head_text (report_front (ledger_at f l stage all)) ++ lines_left fronts.more)))
          (all_ledgers true (false, []) all p ps are)
          ∙ ap (λ (t : List ℕ). and_then (read_all true no_fronts [] fronts.more)
          (λ end. Ok (head_text ++ t)))
          (left_shown ledger_text (λ p. p.lines) ledger_opened IsNextLedger IsAfter (λ number p. refl)
          (p ∷ ps) fronts.more fronts.opened),
    )
  where
    all_ledgers : (first : Bool) (before all : Bool × List (Option Position)) (p : PartLedger)
        (ps : List PartLedger) → are_next IsNextLedger first before (p ∷ ps) all → all.0 ≡ true
    all_ledgers first before all p [] (next, is, end) = ap (λ (q : Bool × _). q.0) (sym end) ∙ is.ledger
    all_ledgers first before all p (q ∷ ps) (next, is, more) = all_ledgers false next all q ps more

is_ok : {S E : Type 0} (r : Result S E) (t text : List ℕ)
    → and_then r (λ (s : S). Ok t) ≡ Ok text → text ≡ t
is_ok (Ok s) t text is = cc
is_ok (Err why) t text is = absurd (cc)

-- THE law: what is merged of the parts' ledgers is the header line and the lines of all
pub ledgers_merge : (p : PartLedger) (ps : List PartLedger) (all : Bool × List (Option Position))
    → are_next IsNextLedger true (false, []) (p ∷ ps) all
    → (text : List ℕ) → merge_of (map ledger_text (p ∷ ps)) ≡ Ok text
    → text ≡ head_text ++ all_lines (p ∷ ps)
ledgers_merge p ps all are text is =
    let (opens, opened_all, same) = fronts_merge p ps all are in
    is_ok (read_all true no_fronts [] opens) (head_text ++ all_lines (p ∷ ps)) text (sym same ∙ is)
