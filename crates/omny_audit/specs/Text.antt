-- The lines that report a verdict, and how the ledger's taps differ from those of the uploads.
use Rattle.fare_texts.specs.Moments.{IsMomentText}
use Rattle.hex.specs.Hex.{encode_lower}
use Rattle.ledger_check.specs.{FullChecks.legal_text, declared.balance.Difference.Difference}
use Rattle.ledger_check.specs.declared.balance.Difference.TheVariants.{Missing, Surplus}
use Rattle.ledger_check.specs.declared.checker.Verdict.{Verdict}
use Rattle.ledger_check.specs.declared.checker.Verdict.TheVariants.{Legal, Wants, NoLine}
use Rattle.std.specs.{Fmt.decimal, List.AllZip, List.flat_map}
use Rattle.std.specs.Prelude.{◌≡◌, ℕ, List, ◌++◌, codes, string_bytes, Option, None, Some, ◌&&◌}
use Rattle.std.specs.Prelude.{Bool, MatchBool, length, nat_eq}
use Rattle.tap_views.specs.declared.encoder.TapFields.{TapFields}

-- `legal 6 lines, ..`, `line 4 wants LINE` or `line 4 is no ledger line`; the wanted line has its
-- newline
unfoldable pub verdict_text : Verdict → List ℕ
verdict_text (Legal entries early) = legal_text entries early
verdict_text (Wants line wanted) =
    codes "line " ++ (decimal line ++ (codes " wants " ++ string_bytes wanted))
verdict_text (NoLine line) = codes "line " ++ (decimal line ++ codes " is no ledger line\n")

-- the token, and the space after it
unfoldable pub token_and_space : TapFields → List ℕ
token_and_space tap = encode_lower tap.token ++ codes " "

-- the space before the validator, the validator and the newline
unfoldable pub space_and_validator : TapFields → List ℕ
space_and_validator tap = codes " " ++ (decimal tap.validator ++ codes "\n")

-- `missing tap 000000000000000000000000000000a1 2024-03-08T17:00:00.000Z 1000` or other words before
-- the tap, with its newline
pub record IsTapLine (words : List ℕ) (tap : TapFields) (text : List ℕ) : Type 0 where
  pub moment : List ℕ
  pub is : IsMomentText tap.moment moment
  pub shown : text ≡ words ++ (token_and_space tap ++ (moment ++ space_and_validator tap))

-- `all taps of the uploads`; `missing tap ..`, if the uploads have it more often than the ledger,
-- `surplus tap ..`, if the ledger has it more often
abbrev pub IsDifferenceText : Option Difference → List ℕ → Type 0
IsDifferenceText None text = text ≡ codes "all taps of the uploads\n"
IsDifferenceText (Some (Missing tap)) text = IsTapLine (codes "missing tap ") tap text
IsDifferenceText (Some (Surplus tap)) text = IsTapLine (codes "surplus tap ") tap text

-- a line for each of these taps, after these words
abbrev pub AreTapLines : List ℕ → List TapFields → List ℕ → Type 0
AreTapLines words taps text = (lines : List (List ℕ)) × AllZip (IsTapLine words) taps lines
    × (text ≡ flat_map (λ line. line) lines)

-- `missing tap ..` for each missing tap, then `surplus tap ..` for each surplus one
abbrev pub AreDifferenceLines : List TapFields → List TapFields → List ℕ → Type 0
AreDifferenceLines missing surplus text = (first : List ℕ) × (next : List ℕ)
    × AreTapLines (codes "missing tap ") missing first
    × AreTapLines (codes "surplus tap ") surplus next × (text ≡ first ++ next)

-- whether nothing is missing and nothing surplus
abbrev pub are_none : List TapFields → List TapFields → Bool
are_none missing surplus = nat_eq (length missing) 0 && nat_eq (length surplus) 0

-- `all taps of the uploads`, or a line for each missing and each surplus tap
abbrev pub IsDifferencesText : List TapFields → List TapFields → List ℕ → Type 0
IsDifferencesText missing surplus text =
    MatchBool (are_none missing surplus) (IsDifferenceText None text)
    (AreDifferenceLines missing surplus text)
