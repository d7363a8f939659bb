-- A line of a traced ledger that is written, and how it is read.
use Rattle.std.specs.Prelude.{◌≡◌, ℕ, List, ◌∷◌, ◌++◌, Some}
use Rattle.ledger_check.specs.Columns.{IsTraced, TracedLine, cut_line, traced_text}
use Rattle.ledger_check.specs.Lines.{Lacks}
use Rattle.settled_bills.specs.Columns.{columns_of, with_columns}
use Rattle.settled_bills.specs.declared.trace.TracedTap.{TracedTap}

-- the fields of a ledger's line, the class of the tap's rider, and the tap's place
abbrev pub line_of : List ℕ → List ℕ → TracedTap → TracedLine
line_of fields class traced = record {
  fields = fields;
  class = class;
  upload = traced.upload;
  position = traced.position;
}

-- Where the columns of a tap are put after the fields of a line, the line that is written is read
-- back as these fields, this class, and the same place of the same upload.
abbrev pub TracedLinesAreReadBack : Type 0
TracedLinesAreReadBack =
    (fields class text : List ℕ) (traced : TracedTap) (columns : List (List ℕ))
    → Lacks 10 fields → IsTraced (line_of fields class traced)
    → (with_columns (fields ++ 10 ∷ text) (columns_of class traced ∷ columns)
    ≡ traced_text (line_of fields class traced) ++ with_columns text columns)
    × (cut_line (traced_text (line_of fields class traced)) ≡ Some (line_of fields class traced))
