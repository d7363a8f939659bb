-- Full checks: what private functions alone cite.
use Rattle.fare_texts.specs.Explainers.{next_entry}
use Rattle.fare_texts.specs.LedgerLines.{IsLedgerLineAfter, head_text}
use Rattle.histories.specs.{Entry.own, declared.entry.Entry.Entry}
use Rattle.ledger_check.specs.FullBalances.{IsFullBalance}
use Rattle.ledger_check.specs.FullCheckStates.{AreSums, HasFed, HasRunExplainer}
use Rattle.ledger_check.specs.FullChecks.{IsJudged, IsFullCheck, IsTaken, TakenLine}
use Rattle.ledger_check.specs.FullChecks.{decreases_after, one_wrong, run_of, run_with, taps_from}
use Rattle.ledger_check.specs.FullChecks.{remark_lines, wrong_count}
use Rattle.ledger_check.specs.declared.checker.Verdict.{Verdict}
use Rattle.ledger_check.specs.declared.checker.Verdict.TheVariants.{Legal, Wants as Asks}
use Rattle.ledger_check.specs.declared.checker.Verdict.TheVariants.{NoLine as Refuses}
use Rattle.ledger_check.specs.declared.full_balance.FullBalance.{FullBalance}
use Rattle.ledger_check.specs.declared.full_check_sums.FullCheckSums.{FullCheckSums}
use Rattle.ledger_check.specs.declared.lines_fed.{LinesFed.LinesFed, LinesTaken.LinesTaken}
use Rattle.ledger_check.specs.declared.{tap.Tap.Tap, walk.CountedTap.CountedTap}
use Rattle.ledger_check.specs.declared.walk.{LineFinding.LineFinding, NextTap.NextTap}
use Rattle.ledger_check.specs.declared.walk.Remark.{Remark, TheVariants.Nothing, TheVariants.NoLine}
use Rattle.ledger_check.specs.declared.walk.{Remark.TheVariants.Wants, Walk.Walk}
use Rattle.std.specs.Prelude.{◌≡◌, ℕ, ◌≤◌, Bool, true, List, [], ◌∷◌, ◌++◌, length, IfSome, None}
use Rattle.std.specs.{Prelude.Some, Prelude.if◌then◌else◌, Prelude.string_bytes, Str.bytes_eq}
use Rattle.tap_views.specs.declared.encoder.TapFields.{TapFields}
use Rattle.tariffs.specs.Fares.{Fares}

-- what the tap makes after the entries: its entry, whether its token falls, and its line
pub record IsNextTap (fares : Fares) (run : List Entry) (tap : Tap) (wanted : List ℕ)
    (next : NextTap) : Type 0 where
  pub ruled : next.entry
      ≡ next_entry fares tap.token (own tap.token run) tap.validator tap.moment
  pub shown : IsLedgerLineAfter fares tap.token (own tap.token run) next.entry wanted
  pub decreasing : next.is_decrease ≡ decreases_after run tap.token
  pub explainer : HasRunExplainer fares (Some next.explainer)
      (own tap.token run ++ next.entry ∷ [])

-- what is found of a line that is right
abbrev pub right_finding : CountedTap → LineFinding
right_finding tap = record { tap = Some tap; remark = Nothing; has_form = true }

-- how a wrong line of this number is called
abbrev pub IsCalled : Remark → ℕ → List ℕ → Verdict → Type 0
IsCalled remark number wanted (Legal entries early) = ⊥
IsCalled remark number wanted (Asks at text) = (remark ≡ Wants) × (at ≡ number)
    × (string_bytes text ≡ wanted) × (length wanted ≤ 255)
IsCalled remark number wanted (Refuses at) = at ≡ number

-- the line was judged after the entries, and the walk is after it
pub record HasJudged (fares : Fares) (run : List Entry) (line : List ℕ) (walk : Walk)
    (finding : LineFinding) : Type 0 where
  pub is : IsJudged fares run line finding.tap finding.remark (string_bytes walk.wanted)
  pub explainer : HasRunExplainer fares walk.explainer (run_with run finding.tap)

-- the tap of a right line is such
abbrev pub IfRight : LineFinding → (CountedTap → Type 0) → Type 0
IfRight finding Is = one_wrong finding.remark ≡ 0 → IfSome finding.tap Is

-- what is found of the first line
abbrev pub IsFirstFinding : List ℕ → LineFinding → Type 0
IsFirstFinding line finding = (finding.tap ≡ None)
    × (finding.remark ≡ (if bytes_eq line head_text then Nothing else NoLine))

-- the line was taken after these, and the walk is after it
pub record HasFound (fares : Fares) (taken : List TakenLine) (line : List ℕ) (walk : Walk)
    (finding : LineFinding) : Type 0 where
  pub is : IsTaken fares taken
      (record { line = line; finding = finding; wanted = string_bytes walk.wanted })
  pub explainer : HasRunExplainer fares walk.explainer (run_with (run_of taken) finding.tap)

-- a line that was taken, and the line that its tap should have
abbrev pub next_taken : List ℕ → LineFinding → LinesTaken → TakenLine
next_taken line finding so_far =
    record { line = line; finding = finding; wanted = string_bytes so_far.walk.wanted }

-- all lines of the text were taken, the last one too, and the remarks were written
pub record HasEnded (fares : Fares) (fed : LinesFed) (subtracts : Bool) (full : FullBalance)
    (text written : List ℕ) (valid : List TapFields) (sums : FullCheckSums)
    (reported reported' : List ℕ) : Type 0 where
  pub taken : List TakenLine
  pub full_check : IsFullCheck fares text taken
  pub sums_are : AreSums sums taken
  pub more : List ℕ
  pub grown : reported' ≡ reported ++ more
  pub all : written ++ more ≡ remark_lines taken
  pub subtracted : subtracts ≡ true → IsFullBalance full valid (taps_from taken)
  pub whole : wrong_count taken ≡ 0 → HasFed fares fed text taken
