-- The ledger of sorted files, and traced ledgers.
use Rattle.fare_texts.specs.Ledger.{IsLedgerOver}
use Rattle.histories.specs.declared.entry.Entry.{Entry}
use Rattle.settled_bills.specs.Columns.{columns_by, head_columns, with_columns}
use Rattle.settled_bills.specs.Traces.{IsTrace, taps_of_trace}
use Rattle.settled_bills.specs.declared.trace.TracedTap.{TracedTap}
use Rattle.settlement.specs.{Posted.posted, Settled.IsSettledHistory}
use Rattle.std.specs.Prelude.{ℕ, List, None, ◌≡◌, Bool, ◌∷◌}
use Rattle.tariffs.specs.Fares.{Fares}

-- the text is the ledger of all tokens over the settled history of the files
pub record IsLedgerOfFiles (fares : Fares) (files : List (List ℕ)) (text : List ℕ) : Type 0 where
  pub history : List Entry
  pub is_settled : IsSettledHistory fares files history
  pub over : IsLedgerOver fares history None text

-- The text is the traced ledger of the files, by a function that gives the class of each token at a
-- moment. It is the ledger of the taps of their trace, which is that of the files' settled history,
-- with three columns more after each line. After the header line are the columns' names, and after
-- the line of each tap the class of its token at its moment, the number of its file and its place
-- there. It is whole if no file has a layout fault.
pub record IsTracedLedger (classes : ℕ → List ℕ → List ℕ) (fares : Fares) (files : List (List ℕ))
    (text : List ℕ) (whole : Bool) : Type 0 where
  pub trace : List TracedTap
  pub is_trace : IsTrace files trace whole
  pub is_settled : IsSettledHistory fares files (posted fares (taps_of_trace trace))
  pub untraced : List ℕ
  pub is_ledger : IsLedgerOver fares (posted fares (taps_of_trace trace)) None untraced
  pub shown : text ≡ with_columns untraced (head_columns ∷ columns_by classes trace)
