-- The words of `--columns` and `--only`, and the rows that they ask for.
use Rattle.std.proofs.Common.{◌≡◌, ◌∙◌, Bor, List, Some, ap, false, length, refl, sym}
use Rattle.clap.specs.Words.{Row, Text, first_of}
use Rattle.std.proofs.lemmas.List.{length-map}
use Rattle.std.specs.Prelude.{codes, nat_lt, unwrap_or}
use Rattle.tap_rows.specs.declared.agency.choice.{Fold.Fold, Separator.Separator, Unit.Unit}
use Rattle.tool_words.specs.Columns.{columns_in, conditions_of, fold_in, separator_in, unit_in}
use Rattle.tool_words.specs.Request.{RowsRequest, encode_rows, encoded_files, inputs_in, read_files}
use Rattle.tool_words.specs.Request.{requested_rows, rows_by, rows_request}
use Rattle.tool_words.specs.{Tasks.texts_of, ToolLine.has_value}

-- several words have several names
pub many_named : (words : List (Bor Text)) (names : List Text) → texts_of words ≡ names
    → nat_lt 1 (length words) ≡ nat_lt 1 (length names)
many_named words names is =
    ap (nat_lt 1) (sym (length-map words (λ (word : Bor Text). word.now)) ∙ ap length is)

-- the rows of words of which none is wrong
pub rows_are : (rows : List Row) (files : List Text) (words : RowsRequest)
    (columns : Text × Text × Text) (separator : Separator) (unit : Unit) (fold : Fold)
    (only without : List (Text × Text)) → files ≡ encoded_files rows
    → words ≡ requested_rows columns separator unit fold only without rows
    → Some columns ≡ columns_in rows
    → Some separator ≡ separator_in (unwrap_or (first_of (codes "separator") rows) (codes ","))
    → Some unit ≡ unit_in (first_of (codes "unit") rows)
    → Some fold ≡ fold_in (has_value (codes "zone") rows) (first_of (codes "fold") rows)
    → Some only ≡ conditions_of (codes "only") (codes "transaction_outcome=allow") rows
    → Some without ≡ conditions_of (codes "drop") (codes "type=off") rows
    → nat_lt 1 (inputs_in (read_files rows)) ≡ false → encode_rows files words ≡ rows_request rows
rows_are rows files words columns separator unit fold only without named is c s u f o w once =
    let all : rows_by (Some columns) (Some separator) (Some unit) (Some fold) (Some only)
    (Some without) rows ≡ encode_rows files words = rw (once, named, is) refl in
    sym all ∙ λ i. rows_by (c i) (s i) (u i) (f i) (o i) (w i) rows
