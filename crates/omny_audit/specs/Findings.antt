-- What is found of a ledger's text.
use Rattle.histories.specs.declared.entry.Entry.{Entry}
use Rattle.ledger_check.specs.{Balances.IsDifference, FullBalances.AreLacking}
use Rattle.ledger_check.specs.FullChecks.{IsFullCheck, TakenLine, full_check_text, taps_from}
use Rattle.ledger_check.specs.{Ledger.IsLedger, Ledger.IsLedgerOf, Orders.are_settled}
use Rattle.ledger_check.specs.{Orders.tap_of_entry, Verdicts.IsVerdict, Verdicts.is_legal}
use Rattle.ledger_check.specs.declared.{balance.Difference.Difference, checker.Verdict.Verdict}
use Rattle.omny_audit.specs.Text.{IsDifferenceText, IsDifferencesText, verdict_text}
use Rattle.std.specs.{List.Sorted.IsPermutation, Prelude.◌≡◌}
use Rattle.std.specs.Prelude.{ℕ, Bool, true, false, List, [], ◌++◌, map, Option, None, Some, ◌||◌}
use Rattle.tap_views.specs.declared.encoder.TapFields.{TapFields}
use Rattle.tariffs.specs.Fares.{Fares}

-- What follows the line of the verdict, which is legal or not: nothing, or, if it is legal and
-- there are uploads, the line of the difference of their taps and the ledger's, whatever entries it
-- has.
abbrev pub IsDifferenceLine : Fares → List ℕ → Option (List TapFields) → Bool → List ℕ → Type 0
IsDifferenceLine fares text valid false rest = rest ≡ []
IsDifferenceLine fares text None true rest = rest ≡ []
IsDifferenceLine fares text (Some valid) true rest = (difference : Option Difference)
    × IsDifferenceText difference rest × ((entries : List Entry) → IsLedgerOf fares entries text
    → IsDifference valid (map tap_of_entry entries) difference)

-- what is found of the text up to its first wrong line, beside the valid taps of the uploads, if
-- there are uploads: a true verdict, and the difference
pub record IsFinding (fares : Fares) (text : List ℕ) (valid : Option (List TapFields))
    (reported : List ℕ) : Type 0 where
  pub verdict : Verdict
  pub is_verdict : IsVerdict fares text verdict
  pub rest : List ℕ
  pub shown : reported ≡ verdict_text verdict ++ rest
  pub second : IsDifferenceLine fares text valid (is_legal verdict) rest

-- What follows a full check: nothing, or, if there are uploads, how the taps that its lines name
-- differ from theirs.
abbrev pub IsDifferencesEnd : Option (List TapFields) → List TapFields → List ℕ → Type 0
IsDifferencesEnd None taps rest = rest ≡ []
IsDifferencesEnd (Some valid) taps rest =
    (missing : List TapFields) × (surplus : List TapFields) × AreLacking valid taps missing
    × AreLacking taps valid surplus × IsDifferencesText missing surplus rest

-- what is found of all lines of the text, beside the valid taps of the uploads, if there are
-- uploads: a full check, and the differences
pub record IsFullFinding (fares : Fares) (text : List ℕ) (valid : Option (List TapFields))
    (reported : List ℕ) : Type 0 where
  pub taken : List TakenLine
  pub full_check : IsFullCheck fares text taken
  pub rest : List ℕ
  pub shown : reported ≡ full_check_text taken ++ rest
  pub second : IsDifferencesEnd valid (taps_from taken) rest

-- the finding, of all lines or up to the first wrong one
abbrev pub IsFindingOf : Bool → Fares → List ℕ → Option (List TapFields) → List ℕ → Type 0
IsFindingOf true fares text valid reported = IsFullFinding fares text valid reported
IsFindingOf false fares text valid reported = IsFinding fares text valid reported

-- the taps are those of the uploads in some order, if there are uploads
abbrev pub HasValidTaps : Option (List TapFields) → List TapFields → Type 0
HasValidTaps None taps = Unit {0}
HasValidTaps (Some valid) taps = IsPermutation valid taps

-- the text is, whole, a ledger of legal histories, has the taps of the uploads, and is settled if a
-- live one is not well
abbrev pub IsRightLedger : Bool → Fares → List ℕ → Option (List TapFields) → Type 0
IsRightLedger live fares text valid = (ledger : IsLedger fares text)
    × (HasValidTaps valid (map tap_of_entry ledger.0)
    × ((live || are_settled (map tap_of_entry ledger.0)) ≡ true))
