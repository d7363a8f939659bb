-- The report or the ledger of a history is what is asked for of settled files.
use Rattle.std.proofs.Common.{◌≡◌, ℕ, List, Bool, false, true, Option, None}
use Rattle.fare_program.specs.{Options.Request, Parts.report_over, Settling.ShowsSettled}
use Rattle.fare_texts.specs.Ledger.{IsLedgerOver}
use Rattle.histories.specs.declared.entry.Entry.{Entry}
use Rattle.settlement.specs.Settled.{IsSettledHistory}
use Rattle.tap_views.specs.UploadEnds.{ArePlainEnds, are_posted}
use Rattle.tap_views.specs.declared.{token.Token.Token, upload_end.UploadEnd.UploadEnd}
use Rattle.tariffs.specs.Fares.{Fares}

module _ (request : Request) (fares : Fares) (files : List (List ℕ)) (token : Option Token)
    (text : List ℕ) (success : Bool) (history : List Entry)
    (settled : IsSettledHistory fares files history) (uploads : List UploadEnd)
    (plain : ArePlainEnds files uploads) (posted : success ≡ are_posted uploads)
    (none : token ≡ None) where
  pub shows_bill : request.ledger ≡ false → text ≡ report_over uploads history
      → ShowsSettled request fares files token text success
  shows_bill ledger is = record {
    history = history;
    is_settled = settled;
    shows = rw (none, ledger) (record { ends = uploads; of_uploads = plain; shown = is });
    ends = uploads;
    ended = plain;
    succeeded = posted;
  }

  pub shows_ledger : request.ledger ≡ true → IsLedgerOver fares history None text
      → ShowsSettled request fares files token text success
  shows_ledger ledger is = record {
    history = history;
    is_settled = settled;
    shows = rw (none, ledger) is;
    ends = uploads;
    ended = plain;
    succeeded = posted;
  }
