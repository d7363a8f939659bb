-- The fields with which a line begins: what they lack, and what they say.
use Rattle.std.proofs.Common.{◌≡◌, ℕ, ◌+◌, ◌/◌, ◌%◌, ◌^◌, ◌<◌, ◌==◌, ◌||◌, Bool, not, true, false}
use Rattle.std.proofs.Common.{List, [], ◌∷◌, ◌++◌, append_assoc, ap, ◌∙◌, arith, ◌≢◌, refl}
use Rattle.fare_caps.specs.declared.capped_reason.CappedReason.{CappedReason}
use Rattle.fare_texts.specs.LedgerLines.{IsLedgerLine, entry_fields, line_head, mode_field}
use Rattle.fare_texts.specs.{Moments.IsMomentText, StatementText.answer_text}
use Rattle.hex.specs.Hex.{encode_lower, encode_with, lower_digits}
use Rattle.histories.specs.declared.entry.Entry.{Entry}
use Rattle.ledger_check.proofs.LineLemmas.{lacks-at, lacks-tested}
use Rattle.ledger_check.proofs.MomentLemmas.{moment_parts}
use Rattle.ledger_check.specs.Lines.{Lacks}
use Rattle.line_forms.specs.Columns.{ends_column, is_column}
use Rattle.std.proofs.lemmas.Bool.{and_from, ne_eqb, Decides.nat_tests}
use Rattle.std.proofs.lemmas.Fmt.{decimal_is_IsNumeral}
use Rattle.std.specs.{Fmt.decimal, Str.Parse.AllDigits}
use Rattle.tap_views.specs.{Token.bytes_of, declared.token.Token.Token}
use Rattle.tariffs.specs.Fares.{Fares}

-- a text without a comma and without a line feed is one column
plain : (text : List ℕ) → Lacks 44 text → Lacks 10 text → is_column text ≡ true
plain [] commas feeds = refl
plain (byte ∷ text) commas feeds =
    and_from (not (ends_column byte)) (is_column text)
    (ap (λ (b : Bool). not (b || (byte == 10))) (ne_eqb byte 44 commas.0)
    ∙ ap not (ne_eqb byte 10 feeds.0)) (plain text commas.1 feeds.1)

-- ---- a byte below the hyphen, as a comma or a line feed
module _ (byte : ℕ) (low : byte < 45) where
  digits_lack : (text : List ℕ) → AllDigits 10 text → Lacks byte text
  digits_lack [] digits = tt
  digits_lack (c ∷ text) digits =
      let first = digits.0 in
      (λ is. absurd (grind (arith, nat_tests)), digits_lack text digits.1)

  -- a decimal number lacks it
  pub decimal_lacks : (n : ℕ) → n < 2 ^ 64 → Lacks byte (decimal n)
  decimal_lacks n small = digits_lack (decimal n) (decimal_is_IsNumeral n small).0.1

-- nor do hexadecimal digits have it
encoded_lacks : (byte : ℕ) (bytes : List ℕ) → Lacks byte (48 ∷ lower_digits)
    → 0 ≢ byte → Lacks byte (encode_with lower_digits bytes)
unfolding encode_with
encoded_lacks byte [] table zeros = tt
encoded_lacks byte (b ∷ bytes) table zeros = (
  lacks-at byte lower_digits (b / 16) table.1 zeros,
  (lacks-at byte lower_digits (b % 16) table.1 zeros, encoded_lacks byte bytes table zeros),
)

pub token_plain : (token : Token) → is_column (encode_lower (bytes_of token)) ≡ true
token_plain token = plain (encode_lower (bytes_of token))
    (encoded_lacks 44 (bytes_of token) (lacks-tested 44 (48 ∷ lower_digits) refl) (λ is. omega (arith, is)))
    (encoded_lacks 10 (bytes_of token) (lacks-tested 10 (48 ∷ lower_digits) refl) (λ is. omega (arith, is)))

pub decimal_plain : (n : ℕ) → n < 2 ^ 64 → is_column (decimal n) ≡ true
decimal_plain n small = plain (decimal n) (decimal_lacks 44 (omega arith) n small)
    (decimal_lacks 10 (omega arith) n small)

pub moment_plain : (moment : ℕ) (text : List ℕ) → moment < 4_102_444_800_000
    → IsMomentText moment text → is_column text ≡ true
moment_plain moment text small is =
    rw (moment_parts moment text (omega (arith, small)) is).shown (simp (no_comma, no_feed))
  where
    no_comma : (n : ℕ) → (48 + n == 44) ≡ false
    no_comma n = grind (arith, nat_tests)

    no_feed : (n : ℕ) → (48 + n == 10) ≡ false
    no_feed n = grind (arith, nat_tests)

-- the first fields of a line, and what stands behind them
pub record FirstFields (token : Token) (number : ℕ) (entry : Entry) (line : List ℕ) : Type 0 where
  pub moment : List ℕ
  pub is : IsMomentText entry.moment moment
  pub rest : List ℕ
  pub shown : line ≡ encode_lower
      (bytes_of token) ++ 44
      ∷ (decimal number ++ 44 ∷ (moment ++ 44 ∷ (decimal entry.validator ++ 44 ∷ rest)))

head_shown : (token : Token) (number : ℕ) (more : List ℕ)
    → line_head token number ++ more
    ≡ encode_lower (bytes_of token) ++ 44 ∷ (decimal number ++ 44 ∷ more)
unfolding line_head
head_shown token number more =
    append_assoc (encode_lower (bytes_of token)) (44 ∷ [] ++ (decimal number ++ 44 ∷ [])) more
    ∙ ap (λ (t : List ℕ). encode_lower (bytes_of token) ++ 44 ∷ t)
    (append_assoc (decimal number) (44 ∷ []) more)

pub first_fields : (fares : Fares) (token : Token) (number : ℕ) (entry : Entry) (why : CappedReason)
    (line : List ℕ)
    → IsLedgerLine fares token number entry why line → FirstFields token number entry line
unfolding entry_fields
first_fields fares token number entry why line is =
    let tail = mode_field fares entry.moment
    entry.validator
    ++ (44 ∷ [] ++ (answer_text entry.answer ++ (44 ∷ [] ++ (decimal entry.cents ++ 44 ∷ [])))) in
    let end = is.reason_fields ++ 10 ∷ [] in
    record {
      moment = is.moment;
      is = is.is;
      rest = tail ++ end;
      shown = is.shown ∙ head_shown token number (is.moment ++ (entry_fields fares entry ++ end))
          ∙ ap (λ (t : List ℕ). encode_lower
          (bytes_of token) ++ 44 ∷ (decimal number ++ 44 ∷ (is.moment ++ 44 ∷ t)))
          (append_assoc (decimal entry.validator) (44 ∷ tail) end);
    }
