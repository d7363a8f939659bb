-- A line is the row of at most one tap.
use Rattle.std.proofs.Common.{◌≡◌, ℕ, List, [], ◌∷◌, ◌++◌, length, refl, sym, ap, subst, ◌∙◌, arith}
use Rattle.std.proofs.Common.{append-nil, append_assoc, length-append, Ok}
use Rattle.tap_rows.proofs.{FieldLemmas.one_fields, FieldLemmas.one_value, MomentLemmas.one_time}
use Rattle.tap_rows.specs.{Moments.IsTime, Rows.IsToken, Rows.IsTokenField, Rows.IsValidatorField}
use Rattle.tap_rows.specs.Rows.{IsMomentField, IsTapRow, IsNoTapRow, row_text, rows_text}
use Rattle.tap_rows.specs.declared.column.Column.{Column}
use Rattle.tap_rows.specs.declared.column.Column.TheVariants.{Fields, Token, Validator, Moment}
use Rattle.tap_views.specs.declared.encoder.TapFields.{TapFields}

-- what a field contains
one_token : (text token other : List ℕ) → IsTokenField text token → IsTokenField text other
    → token ≡ other
one_token text token other (value, holds, is) (again, also_represents, also) =
    let same = one_value text value again holds also_represents in
    let both : Ok token ≡ Ok other = sym is ∙ subst (λ v. IsToken v other) (sym same) also in
    cc

one_validator : (text : List ℕ) (number other : ℕ) → IsValidatorField text number
    → IsValidatorField text other → number ≡ other
one_validator text number other (value, holds, is) (again, also_represents, also) =
    let same = one_value text value again holds also_represents in
    cc (is.0.value, also.0.value, same)

one_moment : (text : List ℕ) (number other : ℕ) → IsMomentField text number
    → IsMomentField text other
    → number ≡ other
one_moment text number other (value, holds, is) (again, also_represents, also) =
    let same = one_value text value again holds also_represents in
    one_time value number other is.0 (subst (λ v. IsTime v other) (sym same) also.0)

-- a tap, by its fields
abbrev tap_with : List ℕ → ℕ → ℕ → TapFields
tap_with token validator moment = record { token = token; validator = validator; moment = moment }

-- a line is the row of one tap at most
pub one_row : (line : List ℕ) (tap other : TapFields) → IsTapRow line tap → IsTapRow line other
    → tap ≡ other
one_row line tap other is also =
    let (t, v, m) = one_fields line is.token_text is.validator_text is.moment_text also.token_text
    also.validator_text also.moment_text is.fields also.fields in
    let token = one_token is.token_text tap.token other.token is.token
    (subst (λ text. IsTokenField text other.token) (sym t) also.token) in
    let validator = one_validator is.validator_text tap.validator other.validator is.validator
    (subst (λ text. IsValidatorField text other.validator) (sym v) also.validator) in
    let moment = one_moment is.moment_text tap.moment other.moment is.moment
    (subst (λ text. IsMomentField text other.moment) (sym m) also.moment) in
    let first : tap ≡ tap_with other.token tap.validator tap.moment =
    ap (λ t. tap_with t tap.validator tap.moment) token in
    let second : tap_with other.token tap.validator tap.moment
    ≡ tap_with other.token other.validator tap.moment =
    ap (λ v. tap_with other.token v tap.moment) validator in
    let third : tap_with other.token other.validator tap.moment ≡ other =
    ap (λ m. tap_with other.token other.validator m) moment in
    first ∙ second ∙ third

-- the row of a tap is no bad row
pub no_bad_row : (line : List ℕ) (tap : TapFields) (column : Column) → IsTapRow line tap
    → ¬ (IsNoTapRow line column)
no_bad_row line tap Fields is bad = bad is.token_text is.validator_text is.moment_text is.fields
no_bad_row line tap Token is bad =
    let (t, v, m) = one_fields line is.token_text is.validator_text is.moment_text bad.token_text
    bad.validator_text bad.moment_text is.fields bad.fields in
    bad.wrong tap.token (subst (λ text. IsTokenField text tap.token) t is.token)
no_bad_row line tap Validator is bad =
    let (t, v, m) = one_fields line is.token_text is.validator_text is.moment_text bad.token_text
    bad.validator_text bad.moment_text is.fields bad.fields in
    bad.wrong tap.validator (subst (λ text. IsValidatorField text tap.validator) v is.validator)
no_bad_row line tap Moment is bad =
    let (t, v, m) = one_fields line is.token_text is.validator_text is.moment_text bad.token_text
    bad.validator_text bad.moment_text is.fields bad.fields in
    bad.wrong tap.moment (subst (λ text. IsMomentField text tap.moment) m is.moment)

-- no bytes are the row of no tap
pub not_empty : (tap : TapFields) → ¬ (IsTapRow [] tap)
not_empty tap is = absurd (omega (arith, simp length-append at (ap length is.fields.joined)))

-- the rows of one tap more
pub rows_more : (taps : List TapFields) (tap : TapFields)
    → rows_text (taps ++ tap ∷ []) ≡ rows_text taps ++ row_text tap
rows_more [] tap = append-nil (row_text tap)
rows_more (first ∷ taps) tap =
    ap (λ text. row_text first ++ text) (rows_more taps tap)
    ∙ sym (append_assoc (row_text first) (rows_text taps) (row_text tap))

-- the rows of more taps
pub rows_joined : (taps more : List TapFields)
    → rows_text (taps ++ more) ≡ rows_text taps ++ rows_text more
rows_joined [] more = refl
rows_joined (first ∷ taps) more =
    ap (λ text. row_text first ++ text) (rows_joined taps more)
    ∙ sym (append_assoc (row_text first) (rows_text taps) (rows_text more))
