-- The token of a ledger's line.
use Rattle.std.proofs.Common.{◌≡◌, ◌∙◌, [], ◌∷◌, ◌++◌, List, None, Option, Some, ap, option_map}
use Rattle.std.proofs.Common.{refl, ℕ}
use Rattle.ledger_fields.specs.{Fields.fits, Lines.LineFields, Lines.line_fields, Lines.row_in}
use Rattle.ledger_fields.specs.{Lines.row_of_line, Rows.Row, declared.field.Field.TheVariants.Token}
use Rattle.line_forms.specs.{Columns.column_where, FormLaws.column_law, FormLaws.ended_some}
use Rattle.line_forms.specs.{FormLaws.go_on_some, FormLaws.some_one, Forms.said_by}

pub token_in_front : (line : List ℕ) (row : Row) → row_in line ≡ Some row
    → (rest : List ℕ) × (line ≡ row.key.token ++ rest)
token_in_front line row is = by (said_by line_fields line) refl is
  where
    by : (r : Option LineFields) → said_by line_fields line ≡ r
        → option_map row_of_line r ≡ Some row → (rest : List ℕ) × (line ≡ row.key.token ++ rest)
    by None said made = absurd (cc)
    by (Some fields) said made =
        let (rest, first, _) = go_on_some _ (column_where (fits Token) line) fields (10 ∷ [])
        (ended_some (line_fields line) fields said) in
        let (text, column, whole) = (column_law (fits Token)).sound line fields.0 rest first in (
          rest,
          whole ∙ ap (λ (t : List ℕ). t ++ rest)
              (column.shown ∙ ap (λ (r : Row). r.key.token) (some_one made)),
        )
