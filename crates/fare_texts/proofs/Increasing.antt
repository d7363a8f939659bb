-- The entries of one token among entries in order of token.
use Rattle.std.proofs.Common.{◌≡◌, Bool, true, false, List, [], ◌∷◌, ◌++◌, refl, ap, subst, ◌∙◌}
use Rattle.fare_texts.specs.Lines.{AreUpTo, NondecreasingFrom}
use Rattle.histories.proofs.OwnEntries.{own-append, own_none, own_other, own_same}
use Rattle.histories.specs.{Entry.own, declared.entry.Entry.Entry}
use Rattle.tap_views.proofs.TokenLemmas.{same_token}
use Rattle.tap_views.proofs.TokensUp.{not_apart, up_both, up_chain}
use Rattle.tap_views.specs.{Token.token_eq, TokenOrder.IsUpTo, declared.token.Token.Token}

pub own_push : (token : Token) (entries : List Entry) (entry : Entry)
    → token_eq entry.token token ≡ true
    → own token (entries ++ entry ∷ []) ≡ own token entries ++ entry ∷ []
own_push token entries entry is =
    own-append token entries (entry ∷ [])
    ∙ ap (λ (es : List Entry). own token entries ++ es) (own_same token entry [] is
    ∙ ap (λ (es : List Entry). entry ∷ es) (own_none token))

-- entries whose tokens are not above one have none of a token beyond it
pub none_below : (entries : List Entry) (a b : Token) → AreUpTo entries a → IsUpTo a b
    → token_eq a b ≡ false → own b entries ≡ []
none_below [] a b up to apart = own_none b
none_below (entry ∷ entries) a b up to apart =
    own_other b entry entries (by (token_eq entry.token b) refl)
    ∙ none_below entries a b up.1 to apart
  where
    by : (t : Bool) → token_eq entry.token b ≡ t → token_eq entry.token b ≡ false
    by false is = is
    by true is =
        let same : entry.token ≡ b = same_token entry.token b is in
        absurd (not_apart a b (up_both a b to (subst (λ (t : Token). IsUpTo t a) same up.0)) apart)

-- entries whose tokens do not fall from one on have none of a token before it
pub none_above : (token from : Token) (entries : List Entry) → IsUpTo token from
    → token_eq from token ≡ false → NondecreasingFrom from entries → own token entries ≡ []
none_above token from [] to apart nondecreasing = own_none token
none_above token from (entry ∷ entries) to apart nondecreasing =
    let beyond = by (token_eq entry.token token) refl in
    own_other token entry entries beyond
    ∙ none_above token entry.token entries (up_chain token from entry.token to nondecreasing.0)
    beyond
    nondecreasing.1
  where
    by : (t : Bool) → token_eq entry.token token ≡ t → token_eq entry.token token ≡ false
    by false is = is
    by true is =
        let same : entry.token ≡ token = same_token entry.token token is in
        absurd (not_apart from token
        (up_both from token (subst (λ (t : Token). IsUpTo from t) same nondecreasing.0) to) apart)

-- entries up to a token are up to a token that is not below it
pub up_weaker : (entries : List Entry) (a b : Token) → AreUpTo entries a → IsUpTo a b
    → AreUpTo entries b
up_weaker [] a b up to = tt
up_weaker (entry ∷ entries) a b up to =
    (up_chain entry.token a b up.0 to, up_weaker entries a b up.1 to)

pub up_push : (entries : List Entry) (entry : Entry) (token : Token) → AreUpTo entries token
    → IsUpTo entry.token token → AreUpTo (entries ++ entry ∷ []) token
up_push [] entry token up to = (to, tt)
up_push (first ∷ entries) entry token up to = (up.0, up_push entries entry token up.1 to)
