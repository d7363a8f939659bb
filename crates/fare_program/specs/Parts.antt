-- The text of a part of sorted files: of the taps of a range of tokens.
use Rattle.fare_program.specs.{Options.Request, Settling.ShowsSettled}
use Rattle.fare_texts.specs.Ledger.{IsLedgerOver}
use Rattle.histories.specs.{Sums.sums, SumsByKey.sums_by_token, SumsByKey.sums_by_validator}
use Rattle.histories.specs.declared.entry.Entry.{Entry}
use Rattle.part_texts.specs.Heads.{part_head}
use Rattle.report_texts.specs.Report.{report}
use Rattle.settled_bills.specs.Parts.{IsPartOf}
use Rattle.sorted_taps.specs.declared.positions.FileSpan.{FileSpan}
use Rattle.std.specs.Prelude.{◌≡◌, ◌++◌, ℕ, Bool, List, MatchBool, MatchOption, None, Option}
use Rattle.std.specs.Prelude.{length, map}
use Rattle.tap_views.specs.declared.{encoder.TapFields.TapFields, token.Token.Token}
use Rattle.tap_views.specs.declared.upload_end.UploadEnd.{UploadEnd, TheVariants.Posted}
use Rattle.tariffs.specs.Fares.{Fares}

-- the report over a history of uploads with these ends
abbrev pub report_over : List UploadEnd → List Entry → List ℕ
report_over ends history =
    report ends (sums history) (sums_by_validator history) (sums_by_token history)

-- The text says which span of each file the part has. Then comes the report of the taps of these
-- spans, or their ledger if that is asked for.
pub record IsPartText (ledger : Bool) (fares : Fares) (files : List (List ℕ)) (text : List ℕ)
    : Type 0 where
  pub spans : List FileSpan
  pub lists : List (List TapFields)
  pub history : List Entry
  pub part : IsPartOf fares files spans lists history
  pub body : List ℕ
  pub shows : MatchBool ledger (IsLedgerOver fares history None body)
      (body ≡ report_over (map Posted (map length lists)) history)
  pub whole : text ≡ part_head spans ++ body

-- the text is what is asked for of sorted files: of a part of them if a range of tokens is named
abbrev pub ShowsSorted : Request → Fares → List (List ℕ) → Option Token → List ℕ → Bool → Type 0
ShowsSorted request fares files token text success = MatchOption request.tokens
    (ShowsSettled request fares files token text success)
    (λ word. IsPartText request.ledger fares files text)
