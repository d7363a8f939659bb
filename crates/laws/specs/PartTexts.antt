-- The texts of parts.
use Rattle.histories.specs.{Sums.sums, SumsByKey.sums_by_token, SumsByKey.sums_by_validator}
use Rattle.part_texts.specs.{Heads.part_head, HistoryParts.HistoryPart, LedgerParts.IsPartLedger}
use Rattle.report_texts.specs.Report.{report}
use Rattle.settled_bills.specs.Parts.{PartView}
use Rattle.std.specs.Prelude.{ℕ, List, ◌++◌, length, map}
use Rattle.tap_views.specs.declared.upload_end.UploadEnd.TheVariants.{Posted}
use Rattle.tariffs.specs.Fares.{Fares}

-- the text of a part: where it lies in each file, and the report of its taps
abbrev pub part_report : PartView → List ℕ
part_report part =
    part_head part.spans
    ++ report (map Posted (map length part.lists)) (sums part.history)
    (sums_by_validator part.history) (sums_by_token part.history)

-- the part as texts of parts see it
abbrev pub history_part : PartView → HistoryPart
history_part part = record {
  spans = part.spans;
  taps = map length part.lists;
  history = part.history;
}

-- the text of a part: where it lies in each file, and the ledger of its history
abbrev pub IsLedgerText : Fares → PartView → List ℕ → Type 0
IsLedgerText fares part text = IsPartLedger fares (history_part part) text
