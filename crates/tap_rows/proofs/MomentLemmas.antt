-- A text names at most one moment.
use Rattle.std.proofs.Common.{◌≡◌, ℕ, zero, suc, ◌*◌, ◌<◌, List, [], ◌∷◌, length, sym, ◌∙◌, arith}
use Rattle.std.proofs.Common.{Ok, pos, inl, inr}
use Rattle.std.specs.Prelude.{slice_index, MatchOption, None, Some, Option, ◌^◌}
use Rattle.jiff_fmt.specs.Temporal.{parse_timestamp}
use Rattle.std.specs.Str.Parse.{AllDigits}
use Rattle.std.proofs.lemmas.Str.Parse.{digit_from_value}
use Rattle.tap_rows.specs.Moments.{IsDecimal, IsUtc, IsTime, HasUtcPunctuation}

-- no digit stands in the place of the `T`
pub digit_there : (text : List ℕ) (k : ℕ) → AllDigits 10 text → k < length text
    → slice_index text k < 58
digit_there [] k digits within = absurd (omega (arith, within))
digit_there (x ∷ text) zero digits within = let range = digit_from_value x digits.0 in
    omega (arith, range)
digit_there (x ∷ text) (suc k) digits within = digit_there text k digits.1 (omega (arith, within))

-- a text with the marks of an instant writes no number
pub no_number : (text : List ℕ) (number : ℕ) → HasUtcPunctuation text → ¬ (IsDecimal text number)
no_number text number marks is =
    let digit = digit_there text 10 is.digits.1 (omega (arith, marks.0)) in
    absurd (omega (arith, digit, marks.1))

pub one_instant : (text : List ℕ) (a b : ℕ) → IsUtc text a → IsUtc text b → a ≡ b
one_instant text a b is also =
    let same : pos (a * 1_000_000) ≡ pos (b * 1_000_000) = cc (is.instant, also.instant) in
    let number : a * 1_000_000 ≡ b * 1_000_000 = cc in
    omega (arith, number)

pub one_time : (text : List ℕ) (a b : ℕ) → IsTime text a → IsTime text b → a ≡ b
one_time text a b (inl is) (inl also) = is.value ∙ sym also.value
one_time text a b (inl is) (inr also) = absurd (no_number text a also.punctuation is)
one_time text a b (inr is) (inl also) = absurd (no_number text b is.punctuation also)
one_time text a b (inr is) (inr also) = one_instant text a b is also

-- what the grammar says of a text with the marks
pub from_instant : (text : List ℕ) (found : Option ℕ) → HasUtcPunctuation text
    → MatchOption found
    ((number : ℕ) → number < 2 ^ 64 → ¬ (parse_timestamp text ≡ Ok (pos (number * 1_000_000))))
    (λ number. parse_timestamp text ≡ Ok (pos (number * 1_000_000)))
    → MatchOption found ((number : ℕ) → number < 2 ^ 64 → ¬ (IsTime text number))
    (λ number. IsTime text number)
from_instant text None marks none = no_time
  where
    no_time : (number : ℕ) → number < 2 ^ 64 → ¬ (IsTime text number)
    no_time number small (inl is) = no_number text number marks is
    no_time number small (inr is) = none number small is.instant
from_instant text (Some number) marks is = inr (record { punctuation = marks; instant = is })
