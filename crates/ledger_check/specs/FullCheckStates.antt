-- What a check knows of the lines that it has read.
use Rattle.fare_texts.specs.{Explainers.HasExplained, declared.explainer.Explainer.Explainer}
use Rattle.histories.specs.declared.entry.Entry.{Entry}
use Rattle.ledger_check.specs.{Balances.IsBalance, FullBalances.IsFullBalance}
use Rattle.ledger_check.specs.FullChecks.{AreTaken, TakenLine, cents_from, entries_from}
use Rattle.ledger_check.specs.FullChecks.{last_wrong_token, lines_from, run_of, taps_from}
use Rattle.ledger_check.specs.FullChecks.{token_count, remark_lines, wanted_cents_from, wrong_count}
use Rattle.ledger_check.specs.{Lines.Lacks, Lines.lines_of, OpenSums.AreOpenSums, Orders.IsOrderOf}
use Rattle.ledger_check.specs.Verdicts.{IsVerdict, is_legal}
use Rattle.ledger_check.specs.declared.balance.Balance.{Balance}
use Rattle.ledger_check.specs.declared.checker.{Checker.Checker, Verdict.Verdict}
use Rattle.ledger_check.specs.declared.full_balance.FullBalance.{FullBalance}
use Rattle.ledger_check.specs.declared.full_check.FullCheck.{FullCheck}
use Rattle.ledger_check.specs.declared.full_check_sums.FullCheckSums.{FullCheckSums}
use Rattle.ledger_check.specs.declared.lines_fed.{LinesFed.LinesFed, LinesTaken.LinesTaken}
use Rattle.ledger_check.specs.declared.open_sums.OpenSums.{OpenSums}
use Rattle.std.specs.Prelude.{◌≡◌, ◌⊎◌, ℕ, ◌^◌, ◌<◌, ◌≤◌, Bool, true, List, [], ◌++◌, All, IfSome}
use Rattle.std.specs.Prelude.{Option, None, Some, false, length}
use Rattle.tap_views.specs.{Token.Fits, declared.encoder.TapFields.TapFields}
use Rattle.tariffs.specs.Fares.{Fares}

-- the explainer represents the entries, which are its token's, and has taken some
pub record RepresentsRun (fares : Fares) (explainer : Explainer) (run : List Entry) : Type 0 where
  pub fits : Fits explainer.token
  pub explained : HasExplained fares explainer run
  pub of_token : All (λ entry. entry.token ≡ explainer.token) run
  pub some : 0 < length run

-- the last explainer, if there were entries, represents them
abbrev pub HasRunExplainer : Fares → Option Explainer → List Entry → Type 0
HasRunExplainer fares None run = run ≡ []
HasRunExplainer fares (Some explainer) run = RepresentsRun fares explainer run

-- the sums are those of the taken lines
pub record AreSums (sums : FullCheckSums) (taken : List TakenLine) : Type 0 where
  pub lines : sums.lines ≡ length taken
  pub few : length taken ≤ 2 ^ 62
  pub wrong : sums.wrong ≡ wrong_count taken
  pub last : sums.last_wrong ≡ last_wrong_token taken
  pub tokens : sums.tokens ≡ token_count taken
  pub cents : sums.cents ≡ cents_from taken
  pub wanted : sums.wanted ≡ wanted_cents_from taken
  pub order : IsOrderOf (taps_from taken) sums.order

-- the sums of the entries, if they are requested and no line is wrong
abbrev pub HasEntries : Option OpenSums → List TakenLine → Type 0
HasEntries entries taken =
    IfSome entries (λ sums. (wrong_count taken ≡ 0) × AreOpenSums (entries_from taken) sums)

-- these lines were taken
pub record HasTakenLines (fares : Fares) (so_far : LinesTaken) (taken : List TakenLine)
    : Type 0 where
  pub are : AreTaken fares taken
  pub sums : AreSums so_far.sums taken
  pub run : List Entry
  pub is_run : run ≡ run_of taken
  pub few : length run ≤ length taken
  pub explainer : HasRunExplainer fares so_far.walk.explainer run
  pub entries : HasEntries so_far.entries taken

-- of the text all is kept, or more than the longest line has
abbrev pub IsKept : List ℕ → List ℕ → Type 0
IsKept kept text = (kept ≡ text) ⊎ ((255 < length kept) × (255 < length text))

-- this text was read: these whole lines, and some of the next one
pub record HasFed (fares : Fares) (fed : LinesFed) (text : List ℕ) (taken : List TakenLine)
    : Type 0 where
  pub lines : HasTakenLines fares fed.so_far taken
  pub started : List ℕ
  pub kept : IsKept fed.started.items started
  pub lacks : Lacks 10 started
  pub split : (more : List ℕ)
      → lines_of (text ++ more) ≡ lines_from taken ++ lines_of (started ++ more)

-- The full check has read this text. It has reported what is written of its lines, and subtracted
-- their taps from the balance, if it is to.
pub record HasFullyChecked (fares : Fares) (full_check : FullCheck) (subtracts : Bool)
    (full : FullBalance) (text written : List ℕ) (valid : List TapFields) : Type 0 where
  pub taken : List TakenLine
  pub fed : HasFed fares full_check.fed text taken
  pub reported : written ≡ remark_lines taken
  pub subtracted : subtracts ≡ true → IsFullBalance full valid (taps_from taken)

-- the checker has read this text and found no wrong line, and the taps of its lines were subtracted
pub record IsRightSoFar (fares : Fares) (checker : Checker) (balance : Balance) (text : List ℕ)
    (valid : List TapFields) : Type 0 where
  pub taken : List TakenLine
  pub fed : HasFed fares checker.fed text taken
  pub none : wrong_count taken ≡ 0
  pub subtracted : IsBalance balance valid (taps_from taken)

-- the text was read and no wrong line found, or the verdict is true of the text, whatever follows
abbrev pub IsFed : Fares → Checker → Balance → List ℕ → List TapFields → Option Verdict → Type 0
IsFed fares checker balance text valid None = IsRightSoFar fares checker balance text valid
IsFed fares checker balance text valid (Some verdict) =
    ((more : List ℕ) → IsVerdict fares (text ++ more) verdict) × (is_legal verdict ≡ false)
