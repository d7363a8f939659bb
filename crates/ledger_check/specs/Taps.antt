-- The tap that a line names.
use Rattle.ledger_check.specs.FullChecks.{IsLineOfTap}
use Rattle.std.specs.Prelude.{◌≡◌, ℕ, List, Option, None, Some}
use Rattle.tap_views.specs.Token.{bytes_of}
use Rattle.tap_views.specs.declared.{encoder.TapFields.TapFields, token.Token.Token}

-- the line names this tap, or none
abbrev pub IsTapOfLine : List ℕ → Option TapFields → Type 0
IsTapOfLine line None =
    (token : Token) (validator moment : ℕ) (rest : List ℕ)
    → ¬ (IsLineOfTap line token validator moment rest)
IsTapOfLine line (Some tap) =
    (token : Token) × (rest : List ℕ) × IsLineOfTap line token tap.validator tap.moment rest
    × (tap.token ≡ bytes_of token)
