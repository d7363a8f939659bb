-- A table, read row by row.
use Rattle.std.proofs.Common.{◌≡◌, ◌∙◌, ◌+◌, ℕ, List, [], ◌∷◌, ◌++◌, ap, arith, length-append, refl}
use Rattle.std.proofs.Common.{subst, sym}
use Rattle.std.specs.Io.BufRead.{first_line, drop_through}
use Rattle.tap_rows.proofs.RowLemmas.{one_row, no_bad_row, not_empty}
use Rattle.tap_rows.specs.Rows.{IsTapRow, IsNoTapRow}
use Rattle.tap_rows.specs.TapTables.{BeginsWithRows, IsBadRow, IsHead, IsTapTable}
use Rattle.tap_rows.specs.declared.{column.Column.Column, growing.Growing.Growing}
use Rattle.tap_rows.specs.inside.{Growing.IsGrown, TapTables.HasEncoded}
use Rattle.tap_views.specs.declared.encoder.TapFields.{TapFields}

-- ---- rows
-- one row more
pub more_rows : (text : List ℕ) (taps : List TapFields) (left : List ℕ) (tap : TapFields)
    → BeginsWithRows text taps left → IsTapRow (first_line left) tap
    → BeginsWithRows text (taps ++ tap ∷ []) (drop_through 10 left)
more_rows text [] left tap begins row =
    (subst (λ bytes. IsTapRow (first_line bytes) tap) (sym begins) row, ap (drop_through 10) begins)
more_rows text (first ∷ taps) left tap begins row =
    (begins.0, more_rows (drop_through 10 text) taps left tap begins.1 row)

-- ---- a table is the table of one list of taps, and has no bad row
pub one_list : (text : List ℕ) (taps others : List TapFields) → BeginsWithRows text taps []
    → BeginsWithRows text others [] → taps ≡ others
one_list text [] [] is also = refl
one_list text [] (tap ∷ others) is also =
    absurd (not_empty tap (subst (λ bytes. IsTapRow (first_line bytes) tap) is also.0))
one_list text (tap ∷ taps) [] is also =
    absurd (not_empty tap (subst (λ bytes. IsTapRow (first_line bytes) tap) also is.0))
one_list text (tap ∷ taps) (other ∷ others) is also =
    let same = one_row (first_line text) tap other is.0 also.0 in
    let rest = one_list (drop_through 10 text) taps others is.1 also.1 in
    ap (λ t. t ∷ taps) same ∙ ap (λ ts. other ∷ ts) rest

no_bad_rest : (text : List ℕ) (taps before : List TapFields) (rest : List ℕ) (column : Column)
    → BeginsWithRows text taps [] → BeginsWithRows text before rest
    → ¬ (rest ≡ []) → ¬ (IsNoTapRow (first_line rest) column)
no_bad_rest text [] [] rest column is also some bad = some (sym also ∙ is)
no_bad_rest text [] (tap ∷ before) rest column is also some bad =
    absurd (not_empty tap (subst (λ bytes. IsTapRow (first_line bytes) tap) is also.0))
no_bad_rest text (tap ∷ taps) [] rest column is also some bad =
    no_bad_row (first_line rest) tap column
    (subst (λ bytes. IsTapRow (first_line bytes) tap) also is.0) bad
no_bad_rest text (tap ∷ taps) (other ∷ before) rest column is also some bad =
    no_bad_rest (drop_through 10 text) taps before rest column is.1 also.1 some bad

pub no_bad_row_in : (text : List ℕ) (taps : List TapFields) (number : ℕ) (column : Column)
    → IsTapTable text taps → ¬ (IsBadRow text number column)
no_bad_row_in text taps number column table bad =
    no_bad_rest (drop_through 10 text) taps bad.before bad.rest column table.rows bad.rows bad.some
    bad.wrong

-- ---- a table that is encoded
pub encoded_row : (text left : List ℕ) (number : ℕ) (growing more : Growing) (tap : TapFields)
    → HasEncoded text left number growing → IsTapRow (first_line left) tap
    → ((taps : List TapFields) → IsGrown growing taps → IsGrown more (taps ++ tap ∷ []))
    → HasEncoded text (drop_through 10 left) (number + 1) more
encoded_row text left number growing more tap has row grown = record {
  taps = has.taps ++ tap ∷ [];
  rows = more_rows (drop_through 10 text) has.taps left tap has.rows row;
  number_is = omega (arith, has.number_is, length-append has.taps (tap ∷ []));
  grown = grown has.taps has.grown;
}

pub encoded_bad : (text left : List ℕ) (number : ℕ) (growing : Growing) (column : Column)
    → IsHead (first_line text) → HasEncoded text left number growing → ¬ (left ≡ [])
    → IsNoTapRow (first_line left) column → IsBadRow text number column
encoded_bad text left number growing column head has some wrong = record {
  head_line = head;
  before = has.taps;
  rest = left;
  rows = has.rows;
  some = some;
  number_is = has.number_is;
  wrong = wrong;
}
