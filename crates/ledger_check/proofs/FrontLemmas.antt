-- A line names one tap.
use Rattle.std.proofs.Common.{◌≡◌, ℕ, ◌^◌, ◌<◌, ◌≤◌, length, append_assoc, List, ◌∷◌, ◌++◌, Ok}
use Rattle.std.proofs.Common.{refl, sym, ap, subst, ◌∙◌, arith, decimal, Some, true, []}
use Rattle.fare_caps.specs.declared.capped_reason.CappedReason.{CappedReason}
use Rattle.fare_texts.specs.LedgerLines.{IsLedgerLine, entry_fields, line_head}
use Rattle.fare_texts.specs.Moments.{IsMomentText}
use Rattle.hex.proofs.HexLemmas.{decode_sized-encode_lower}
use Rattle.hex.specs.Hex.{decode_sized, encode_lower}
use Rattle.histories.specs.declared.entry.Entry.{Entry}
use Rattle.ledger_check.proofs.FieldLemmas.{decimal_plain, first_fields, moment_plain, token_plain}
use Rattle.ledger_check.proofs.MomentLemmas.{moment_exact}
use Rattle.ledger_check.specs.FullChecks.{IsLineOfTap, any_column, front_columns, next_column}
use Rattle.line_forms.specs.{Columns.BeginsAfterColumn, Columns.is_column, FormLaws.column_law}
use Rattle.line_forms.specs.Forms.{go_on, then_read, with_second}
use Rattle.std.proofs.lemmas.{Fmt.decimal_injective, Option.same_Some}
use Rattle.tap_views.proofs.TokenBytes.{token_bytes, token_length}
use Rattle.tap_views.proofs.TokenLemmas.{bytes_of-injective}
use Rattle.tap_views.specs.{Token.Fits, Token.bytes_of, declared.token.Token.Token}
use Rattle.tariffs.specs.Fares.{Fares}

-- ---- columns are read
column_read : (column rest : List ℕ) → is_column column ≡ true → BeginsAfterColumn rest
    → any_column (column ++ rest) ≡ Some (column, rest)
column_read column rest plain ends =
    (column_law (λ c. true)).complete column column rest
    (record { shown = refl; plain = plain; passes = refl }) ends

columns_read : (a b c d rest : List ℕ) → is_column a ≡ true → is_column b ≡ true
    → is_column c ≡ true → is_column d ≡ true → BeginsAfterColumn rest
    → front_columns (a ++ 44 ∷ (b ++ 44 ∷ (c ++ 44 ∷ (d ++ rest)))) ≡ Some ((a, (b, (c, d))), rest)
columns_read a b c d rest plain_a plain_b plain_c plain_d ends =
    ap (go_on (then_read next_column (then_read next_column next_column)))
    (column_read a (44 ∷ (b ++ 44 ∷ (c ++ 44 ∷ (d ++ rest)))) plain_a refl)
    ∙ ap (λ r. with_second a (go_on (then_read next_column next_column) r))
    (column_read b (44 ∷ (c ++ 44 ∷ (d ++ rest))) plain_b refl)
    ∙ ap (λ r. with_second a (with_second b (go_on next_column r)))
    (column_read c (44 ∷ (d ++ rest)) plain_c refl)
    ∙ ap (λ r. with_second a (with_second b (with_second c r))) (column_read d rest plain_d ends)

-- the same columns
pub record SameColumns (token moment validator rest token' moment' validator' rest' : List ℕ)
    : Type 0 where
  pub token_is : token ≡ token'
  pub moment_is : moment ≡ moment'
  pub validator_is : validator ≡ validator'
  pub rest_is : rest ≡ rest'

abbrev Columns : Type 0
Columns = (List ℕ × (List ℕ × (List ℕ × List ℕ))) × List ℕ

pub columns_same : (line token number moment validator rest token' number' moment' validator'
    rest' : List ℕ)
    → front_columns line ≡ Some ((token, (number, (moment, validator))), rest)
    → front_columns line ≡ Some ((token', (number', (moment', validator'))), rest')
    → SameColumns token moment validator rest token' moment' validator' rest'
columns_same line token number moment validator rest token' number' moment' validator' rest' a b =
    let both = same_Some _ _ (sym a ∙ b) in
    record {
      token_is = ap (λ (p : Columns). p.0.0) both;
      moment_is = ap (λ (p : Columns). p.0.1.1.0) both;
      validator_is = ap (λ (p : Columns). p.0.1.1.1) both;
      rest_is = ap (λ (p : Columns). p.1) both;
    }

-- the line of a token's entry names its tap
pub line_tap : (fares : Fares) (token : Token) (number : ℕ) (entry : Entry) (why : CappedReason)
    (line : List ℕ) → IsLedgerLine fares token number entry why line → number < 2 ^ 64
    → Fits token → entry.validator < 2 ^ 32 → entry.moment < 4_102_444_800_000
    → length line ≤ 255
    → (rest : List ℕ) × IsLineOfTap line token entry.validator entry.moment rest
line_tap fares token number entry why line shown count fits small early short =
    let fields = first_fields fares token number entry why line shown in (
      44 ∷ fields.rest,
      record {
        fits = fits;
        small = small;
        early = early;
        number = decimal number;
        moment_text = fields.moment;
        is = fields.is;
        columns = ap front_columns fields.shown
            ∙ columns_read (encode_lower (bytes_of token)) (decimal number) fields.moment
            (decimal entry.validator) (44 ∷ fields.rest) (token_plain token)
            (decimal_plain number count) (moment_plain entry.moment fields.moment early fields.is)
            (decimal_plain entry.validator (omega (arith, small))) refl;
        front = line_head token number
            ++ (shown.moment ++ (entry_fields fares entry ++ shown.reason_fields));
        ends = shown.shown ∙ ends (line_head token number) shown.moment
            (entry_fields fares entry) shown.reason_fields;
        short = short;
      },
    )
  where
    ends : (a b c d : List ℕ)
        → a ++ (b ++ (c ++ (d ++ 10 ∷ []))) ≡ (a ++ (b ++ (c ++ d))) ++ 10 ∷ []
    ends a b c d = simp append_assoc

-- tokens with the same text are one token
pub token_exact : (a b : Token) → Fits a → Fits b
    → encode_lower (bytes_of a) ≡ encode_lower (bytes_of b) → a ≡ b
token_exact a b fits_a fits_b same =
    let left = decode_sized-encode_lower (bytes_of a) 16 (token_length a) (token_bytes a) in
    let right = decode_sized-encode_lower (bytes_of b) 16 (token_length b) (token_bytes b) in
    let both : Ok (bytes_of a) ≡ Ok (bytes_of b) =
    sym left ∙ ap (λ (d : List ℕ). decode_sized d 16) same ∙ right in
    bytes_of-injective a b fits_a fits_b (cc)

-- a line names one tap
pub record SameTap (token token' : Token) (validator validator' moment moment' : ℕ)
    (rest rest' : List ℕ) : Type 0 where
  pub token_is : token ≡ token'
  pub validator_is : validator ≡ validator'
  pub moment_is : moment ≡ moment'
  pub rest_is : rest ≡ rest'

pub tap_same_of_line : (line : List ℕ) (token token' : Token)
    (validator validator' moment moment' : ℕ) (rest rest' : List ℕ)
    → IsLineOfTap line token validator moment rest
    → IsLineOfTap line token' validator' moment' rest'
    → SameTap token token' validator validator' moment moment' rest rest'
tap_same_of_line line token token' validator validator' moment moment' rest rest' a b =
    let same = columns_same line _ _ _ _ rest _ _ _ _ rest' a.columns b.columns in
    let small_a : validator < 2 ^ 32 = a.small in
    let small_b : validator' < 2 ^ 32 = b.small in
    record {
      token_is = token_exact token token' a.fits b.fits same.token_is;
      validator_is = decimal_injective validator validator' (omega arith) (omega arith)
          same.validator_is;
      moment_is = moment_exact moment moment' b.moment_text a.early b.early
          (subst (IsMomentText moment) same.moment_is a.is) b.is;
      rest_is = same.rest_is;
    }
