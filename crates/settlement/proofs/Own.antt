-- The taps of one token, in two lists that have the same taps and are in order within each token.
use Rattle.std.proofs.Common.{◌≡◌, Bool, true, sym, ap, ◌∙◌, arith}
use Rattle.histories.specs.{Entry.is_of, Keys.same_token, Plain.token_of_bytes}
use Rattle.histories.specs.declared.entry.Entry.{Entry}
use Rattle.std.proofs.lemmas.Bool.Decides.{nat_tests}
use Rattle.tap_views.specs.Token.{bytes_of, token_eq}
use Rattle.tap_views.specs.declared.{encoder.TapFields.TapFields, token.Token.Token}

-- the fields' token is the one that its bytes name
abbrev pub IsNamedBy : TapFields → Type 0
IsNamedBy f = bytes_of (token_of_bytes f.token) ≡ f.token

-- an entry is one of its own token
pub own_entry : (entry : Entry) → is_of entry.token entry ≡ true
own_entry entry = grind (arith, nat_tests)

-- whether the fields are of the token
abbrev pub of_token : Token → TapFields → Bool
of_token token f = token_eq (token_of_bytes f.token) token

-- both are named, and of one token
pub one_token : (token : Token) (f g : TapFields) → IsNamedBy f → IsNamedBy g
    → of_token token f ≡ true → of_token token g ≡ true → f.token ≡ g.token
one_token token f g named other is is_too =
    let here : token_of_bytes f.token ≡ token = same_token (token_of_bytes f.token) token is in
    let there : token_of_bytes g.token ≡ token = same_token (token_of_bytes g.token) token is_too in
    sym named ∙ ap bytes_of (here ∙ sym there) ∙ other
