-- Tokens that are not above one another: chains of them, and those that are apart.
use Rattle.std.proofs.Common.{◌≡◌, false, refl, sym, ap, ◌∙◌}
use Rattle.std.proofs.lemmas.{Bool.false≢true, Cmp.tied_itself, List.Sorted.ranks_by}
use Rattle.std.specs.{Cmp.IsStrictWeakOrder, Ordering.is_lt, Ordering.ordering_reverse}
use Rattle.std.specs.declared.cmp.Ordering.{Ordering}
use Rattle.std.specs.declared.cmp.Ordering.TheVariants.{Less, Equal, Greater}
use Rattle.tap_views.proofs.TokenLemmas.{token_eq-refl, token_cmp-total, token_cmp-ties}
use Rattle.tap_views.specs.Token.{token_cmp, token_eq}
use Rattle.tap_views.specs.{TokenOrder.IsUpTo, declared.token.Token.Token}

ranked : IsStrictWeakOrder (λ (a b : Token). is_lt (token_cmp a b))
ranked = ranks_by token_cmp-total (λ (token : Token). token)

-- tokens that do not fall, one after another
pub up_chain : (a b c : Token) → IsUpTo a b → IsUpTo b c → IsUpTo a c
up_chain a b c first second = ranked.chain c b a second first

-- a token does not fall from itself
pub up_itself : (a : Token) → IsUpTo a a
up_itself a = ap is_lt (tied_itself token_cmp-total a)

-- a token that another is not above is not greater
pub not_greater : (a b : Token) → IsUpTo a b → token_cmp a b ≡ Greater → ⊥
not_greater a b up greater =
    let less : token_cmp b a ≡ Less = token_cmp-total.antisymm b a ∙ ap ordering_reverse greater in
    false≢true (sym up ∙ ap is_lt less)

-- tokens that are not above each other are the same
pub up_both : (a b : Token) → IsUpTo a b → IsUpTo b a → a ≡ b
up_both a b up back = by (token_cmp a b) refl
  where
    by : (o : Ordering) → token_cmp a b ≡ o → a ≡ b
    by Less less = absurd (false≢true (sym back ∙ ap is_lt less))
    by Equal tied = token_cmp-ties a b tied
    by Greater greater = absurd (not_greater a b up greater)

-- tokens that are the same are equal by `==`
pub not_apart : (a b : Token) → a ≡ b → token_eq a b ≡ false → ⊥
not_apart a b same apart = false≢true (sym apart ∙ sym (ap (token_eq a) same) ∙ token_eq-refl a)

-- a token that another is not above, and that is not the same, is below it
pub up_apart : (a b : Token) → IsUpTo a b → token_eq b a ≡ false → token_cmp a b ≡ Less
up_apart a b up apart = by (token_cmp a b) refl
  where
    by : (o : Ordering) → token_cmp a b ≡ o → token_cmp a b ≡ Less
    by Less less = less
    by Equal tied = absurd (not_apart b a (sym (token_cmp-ties a b tied)) apart)
    by Greater greater = absurd (not_greater a b up greater)
