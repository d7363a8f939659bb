-- The entries of one token among entries: of one more, of two lists, and of its own alone.
use Rattle.std.proofs.Common.{◌≡◌, true, false, List, [], ◌∷◌, ◌++◌, All, cond, filter, refl, ap}
use Rattle.std.proofs.Common.{◌∙◌}
use Rattle.histories.specs.{Entry.is_of, Entry.own, declared.entry.Entry.Entry}
use Rattle.std.proofs.lemmas.List.Elements.{All-head, All-tail, filter-append}
use Rattle.tap_views.proofs.TokenLemmas.{token_eq-refl}
use Rattle.tap_views.specs.{Token.token_eq, declared.token.Token.Token}

-- no entries have none of the token
pub own_none : (token : Token) → own token [] ≡ []
unfolding own
own_none token = refl

-- one entry more, of the token or of another one
pub own_same : (token : Token) (entry : Entry) (entries : List Entry) → is_of token entry ≡ true
    → own token (entry ∷ entries) ≡ entry ∷ own token entries
unfolding own
own_same token entry entries is =
    ap (λ b. cond b (entry ∷ filter (is_of token) entries) (filter (is_of token) entries)) is

pub own_other : (token : Token) (entry : Entry) (entries : List Entry) → is_of token entry ≡ false
    → own token (entry ∷ entries) ≡ own token entries
unfolding own
own_other token entry entries is =
    ap (λ b. cond b (entry ∷ filter (is_of token) entries) (filter (is_of token) entries)) is

-- the token's entries of two lists
pub own-append : (token : Token) (xs ys : List Entry)
    → own token (xs ++ ys) ≡ own token xs ++ own token ys
unfolding own
own-append token xs ys = filter-append (is_of token) xs ys

-- entries that are all the token's
pub own_all : (token : Token) (entries : List Entry) → All (λ entry. entry.token ≡ token) entries
    → own token entries ≡ entries
own_all token [] all = own_none token
own_all token (entry ∷ entries) all =
    let here : token_eq entry.token token ≡ true =
    ap (λ (t : Token). token_eq t token)
    (All-head (λ (e : Entry). e.token ≡ token) entry entries all)
    ∙ token_eq-refl token in
    own_same token entry entries here
    ∙ ap (λ (es : List Entry). entry ∷ es)
    (own_all token entries (All-tail (λ (e : Entry). e.token ≡ token) entry entries all))
