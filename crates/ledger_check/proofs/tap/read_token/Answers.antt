use Rattle.std.proofs.Common.{◌≡◌, ◌∙◌, ap, List, ℕ, Some, Ok}
use Rattle.hex.proofs.HexLemmas.{decode_sized-encode_lower}
use Rattle.hex.specs.Hex.{decode_sized, encode_lower}
use Rattle.tap_views.proofs.TokenBytes.{token_bytes, token_length}
use Rattle.tap_views.proofs.TokenLemmas.{bytes_of-injective}
use Rattle.tap_views.specs.{Token.bytes_of, declared.token.Token.Token}
use Rattle.ledger_check.proofs.tap.read_token.Goals as goal

decoded : (token : Token) (digits : List ℕ) → digits ≡ encode_lower (bytes_of token)
    → decode_sized digits 16 ≡ Ok (bytes_of token)
decoded token digits is =
    ap (λ (d : List ℕ). decode_sized d 16) is
    ∙ decode_sized-encode_lower (bytes_of token) 16 (token_length token) (token_bytes token)

pub returns-in-Ok-clause-found : goal.returns-in-Ok-clause-found
returns-in-Ok-clause-found c = λ token fits is.
    let got = rw (decoded token c.args.digits.now is) at c.decode_to_slice.ensures.value in
    ap Some (bytes_of-injective c.of.result token c.of.ensures.fits fits
    (c.of.ensures.bytes ∙ got.1))

pub returns-in-Err-clause-found : goal.returns-in-Err-clause-found
returns-in-Err-clause-found c = λ token fits is.
    let got = rw (decoded token c.args.digits.now is) at c.decode_to_slice.ensures.value in
    let is_ok = got.0 in
    let is_err = c.in-Err.is in
    absurd (cc)
