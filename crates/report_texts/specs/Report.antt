-- The text of the report, as a list of bytes. Each line ends with one line feed, numbers are
-- decimal, and tokens are hexadecimal digits in lower case.
use Rattle.fare_texts.specs.Counts.{totals_line}
use Rattle.fare_texts.specs.ReportLines.{number_line, token_line, validator_line}
use Rattle.histories.specs.Sums.{Sums}
use Rattle.std.specs.{Fmt.decimal, List.flat_map}
use Rattle.std.specs.Prelude.{ℕ, ◌+◌, List, [], ◌∷◌, ◌++◌, length, codes}
use Rattle.tap_views.specs.UploadEnds.{end_text}
use Rattle.tap_views.specs.declared.{token.Token.Token, upload_end.UploadEnd.UploadEnd}

-- `upload 0 posted 4`
unfoldable pub upload_line : ℕ → UploadEnd → List ℕ
upload_line upload end =
    codes "upload " ++ (decimal upload ++ (codes " " ++ (end_text end ++ codes "\n")))

-- a line for each upload, the first of which has the number `upload`
abbrev pub upload_lines : ℕ → List UploadEnd → List ℕ
upload_lines upload [] = []
upload_lines upload (end ∷ ends) = upload_line upload end ++ upload_lines (upload + 1) ends

-- the uploads of a report
abbrev pub uploads_section : List UploadEnd → List ℕ
uploads_section ends = number_line (codes "uploads ") (length ends) ++ upload_lines 0 ends

-- the validators of a report
abbrev pub validators_section : List (ℕ × Sums) → List ℕ
validators_section sums =
    number_line (codes "validators ") (length sums) ++ flat_map validator_line sums

-- the tokens of a report
abbrev pub tokens_section : List (Token × Sums) → List ℕ
tokens_section sums = number_line (codes "tokens ") (length sums) ++ flat_map token_line sums

-- the report: the end of each upload, the totals, the sums of each validator and those of each
-- token
abbrev pub report : List UploadEnd → Sums → List (ℕ × Sums) → List (Token × Sums) → List ℕ
report ends totals validators tokens =
    uploads_section ends
    ++ (totals_line totals ++ (validators_section validators ++ tokens_section tokens))
