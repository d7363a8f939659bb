-- Entries with the digits of a token that is known.
use Rattle.std.proofs.Common.{◌≡◌, ◌∙◌, List, ap, option_map, ℕ, Some}
use Rattle.hex.specs.Hex.{encode_lower}
use Rattle.ledger_fields.proofs.Tokens.{token_in_front}
use Rattle.ledger_fields.specs.{Lines.row_in, Rows.Row}
use Rattle.part_texts.specs.EntryLines.{entry_token_in, first_of, token_with}
use Rattle.report_texts.specs.{FormLaws.token_law, Forms.token_read}
use Rattle.tap_views.specs.{Token.Fits, Token.bytes_of, declared.token.Token.Token}

-- they need not be decoded
pub known_token : (line : List ℕ) (row : Row) (token : Token) → row_in line ≡ Some row → Fits token
    → row.key.token ≡ encode_lower (bytes_of token) → entry_token_in line ≡ Some token
known_token line row token is fit spelled =
    let (rest, whole) = token_in_front line row is in
    ap (λ r. token_with r line) is
    ∙ ap (λ (l : List ℕ). option_map first_of (token_read l)) whole
    ∙ ap (option_map first_of) (token_law.complete token row.key.token rest (fit, spelled) tt)
