-- Tokens in their order, and the entries of one of them.
use Rattle.std.proofs.Common.{◌≡◌, ℕ, ◌<◌, ◌≤◌, Bool, true, false, cond, List, [], ◌∷◌, ◌++◌}
use Rattle.std.proofs.Common.{length, filter, All, Less, Greater, refl, ap, ◌∙◌, arith, ⊎_elim}
use Rattle.histories.specs.{Entry.is_of, Entry.own, declared.entry.Entry.Entry}
use Rattle.ledger_check.specs.Ledger.{token_number}
use Rattle.std.proofs.lemmas.Bool.{cases_Bool, Decides.nat_tests}
use Rattle.std.proofs.lemmas.List.Elements.{filter-append, All-tail}
use Rattle.tap_views.proofs.TokenLemmas.{same_token, token_eq-refl}
use Rattle.tap_views.specs.{Token.Fits, Token.token_cmp, Token.token_eq, declared.token.Token.Token}

-- of two tokens the lesser has the lesser number
pub less_number : (a b : Token) → Fits a → Fits b → token_cmp a b ≡ Less
    → token_number a < token_number b
less_number a b fits_a fits_b less = grind (arith, nat_tests)

-- of two tokens the greater has the greater number
pub greater_number : (a b : Token) → Fits a → Fits b → token_cmp a b ≡ Greater
    → token_number b < token_number a
greater_number a b fits_a fits_b greater = grind (arith, nat_tests)

pub not_of : (a b : Token) → token_number a < token_number b → token_eq a b ≡ false
not_of a b less =
    ⊎_elim
    (λ (same : token_eq a b ≡ true). let is : a ≡ b = same_token a b same in
    let n : token_number a ≡ token_number b = ap (λ (t : Token). token_number t) is in
    absurd (omega arith))
    (λ (apart : token_eq a b ≡ false). apart)
    (cases_Bool (token_eq a b))

-- a token that is above all entries' has none of them
pub own-above : (token : Token) (entries : List Entry) (limit : ℕ)
    → All (λ entry. token_number entry.token ≤ limit) entries → limit < token_number token
    → own token entries ≡ []
unfolding own
own-above token [] limit up_to above = refl
own-above token (e ∷ entries) limit up_to above =
    let first : token_number e.token ≤ limit = up_to 0 e (omega arith) in
    ap (λ (test : Bool). cond test (e ∷ filter (is_of token) entries)
    (filter (is_of token) entries)) (not_of e.token token (omega arith))
    ∙ own-above token entries limit
    (All-tail (λ (x : Entry). token_number x.token ≤ limit) e entries up_to) above

-- a token's entries with one more of its own
pub own-more : (token : Token) (entries : List Entry) (entry : Entry) → entry.token ≡ token
    → own token (entries ++ entry ∷ []) ≡ own token entries ++ entry ∷ []
unfolding own
own-more token entries entry is =
    filter-append (is_of token) entries (entry ∷ [])
    ∙ ap (λ (test : Bool). filter (is_of token) entries ++ cond test (entry ∷ []) [])
    (ap (λ (t : Token). token_eq t token) is ∙ token_eq-refl token)

-- no more entries of a token than entries
pub own-few : (token : Token) (entries : List Entry) → length (own token entries) ≤ length entries
unfolding own
own-few token [] = omega arith
own-few token (e ∷ entries) =
    ⊎_elim
    (λ (same : is_of token e ≡ true). rw same (omega (arith, own-few token entries)))
    (λ (apart : is_of token e ≡ false). rw apart (omega (arith, own-few token entries)))
    (cases_Bool (is_of token e))
