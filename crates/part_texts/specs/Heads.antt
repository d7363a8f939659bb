-- The head of a part's text: where the part's taps lie in each file.
use Rattle.fare_texts.specs.ReportLines.{number_line}
use Rattle.sorted_taps.specs.declared.positions.{FileSpan.FileSpan, Position.Position}
use Rattle.std.specs.Fmt.{decimal}
use Rattle.std.specs.Prelude.{ℕ, ◌+◌, List, [], ◌∷◌, ◌++◌, Option, Some, None, length, codes}

-- ` to 14344 skip 25`, or ` to end`, with the line feed
abbrev pub to_line : Option Position → List ℕ
to_line None = codes " to end\n"
to_line (Some to) =
    codes " to " ++ (decimal to.offset ++ (codes " skip " ++ (decimal to.skip ++ codes "\n")))

-- `file 0 from 0 skip 0 to 14344 skip 25`
unfoldable pub span_line : ℕ → FileSpan → List ℕ
span_line file span =
    codes "file " ++ (decimal file ++ (codes " from " ++ (decimal span.from.offset
    ++ (codes " skip " ++ (decimal span.from.skip ++ to_line span.to)))))

-- a line for each file, the first of which has the number `file`
abbrev pub span_lines : ℕ → List FileSpan → List ℕ
span_lines file [] = []
span_lines file (span ∷ spans) = span_line file span ++ span_lines (file + 1) spans

-- the head of the text of a part that has these taps of each file
abbrev pub part_head : List FileSpan → List ℕ
part_head spans = number_line (codes "part files ") (length spans) ++ span_lines 0 spans
