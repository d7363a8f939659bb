-- The histories and the sums of taps that are posted token by token.
use Rattle.std.proofs.Common.{◌≡◌, ◌≢◌, ℕ, suc, ◌+◌, ◌<◌, List, ◌∷◌, ◌++◌, length, get_or, take}
use Rattle.std.proofs.Common.{map, refl, sym, ap, subst, ◌∙◌, [], All}
use Rattle.histories.specs.Plain.{answered, token_of_bytes}
use Rattle.histories.specs.{SumsByKey.token_of, declared.entry.Entry.Entry}
use Rattle.settlement.proofs.Concats.{posted_append}
use Rattle.settlement.specs.Posted.{posted, posted_after, token_of_tap, unposted}
use Rattle.std.proofs.lemmas.List.{take_more, Elements.All-map}
use Rattle.std.specs.declared.cmp.Ordering.{Ordering}
use Rattle.std.specs.declared.cmp.Ordering.TheVariants.{Less, Equal, Greater}
use Rattle.tap_views.proofs.Lists.{All-unmap}
use Rattle.tap_views.proofs.TokenLemmas.{high_back, low_back, token_cmp-total, token_cmp-ties}
use Rattle.tap_views.proofs.TokensUp.{not_greater}
use Rattle.tap_views.specs.{Token.Fits, Token.bytes_of, Token.token_cmp, TokenOrder.IsUpTo}
use Rattle.tap_views.specs.declared.{encoder.TapFields.TapFields, token.Token.Token}
use Rattle.tariffs.specs.Fares.{Fares}

-- ---- what is posted
-- the tokens of the entries are those of the taps
pub tokens_posted : (fares : Fares) (earlier : List Entry) (taps : List TapFields)
    → map token_of (posted_after fares earlier taps) ≡ map token_of_tap taps
unfolding posted_after answered
tokens_posted fares earlier [] = refl
tokens_posted fares earlier (tap ∷ taps) =
    ap (λ (ts : List Token). token_of_tap tap ∷ ts)
    (tokens_posted fares (earlier ++ answered fares earlier (unposted tap) ∷ []) taps)

-- each tap has one entry
pub posted_length : (fares : Fares) (earlier : List Entry) (taps : List TapFields)
    → length (posted_after fares earlier taps) ≡ length taps
unfolding posted_after
posted_length fares earlier [] = refl
posted_length fares earlier (tap ∷ taps) =
    ap suc (posted_length fares (earlier ++ answered fares earlier (unposted tap) ∷ []) taps)

-- one tap posted behind others
pub posted_next : (fares : Fares) (taps : List TapFields) (tap : TapFields)
    → posted fares (taps ++ tap ∷ [])
    ≡ posted fares taps ++ answered fares (posted fares taps) (unposted tap) ∷ []
unfolding posted_after
posted_next fares taps tap = posted_append fares [] taps (tap ∷ [])

-- one tap more
pub posted_more : (fares : Fares) (taps : List TapFields) (i : ℕ) (other : TapFields)
    → i < length taps
    → posted fares (take (i + 1) taps) ≡ posted fares (take i taps)
    ++ answered fares (posted fares (take i taps)) (unposted (get_or taps i other)) ∷ []
posted_more fares taps i other inside =
    ap (posted fares) (take_more taps i other inside)
    ∙ posted_next fares (take i taps) (get_or taps i other)

-- ---- the sums of one token
pub tokens_are : (token : Token) (fares : Fares) (earlier : List Entry) (taps : List TapFields)
    → All (λ tap. token_of_tap tap ≡ token) taps
    → All (λ entry. entry.token ≡ token) (posted_after fares earlier taps)
tokens_are token fares earlier taps its =
    All-unmap (λ t. t ≡ token) token_of (posted_after fares earlier taps)
    (subst (All (λ t. t ≡ token)) (sym (tokens_posted fares earlier taps))
    (All-map (λ t. t ≡ token) token_of_tap taps its))

-- ---- the order of tokens

-- a token that another is not above, and that is not the same, is below it
pub up_apart : (a b : Token) → IsUpTo a b → a ≢ b → token_cmp a b ≡ Less
up_apart a b up apart = by (token_cmp a b) refl
  where
    by : (o : Ordering) → token_cmp a b ≡ o → token_cmp a b ≡ Less
    by Less less = less
    by Equal tied = absurd (apart (token_cmp-ties a b tied))
    by Greater greater = absurd (not_greater a b up greater)

-- a token that is not above one that is less is less
pub up_less : (a b c : Token) → IsUpTo a b → token_cmp b c ≡ Less → token_cmp a c ≡ Less
up_less a b c up less = by (token_cmp a b) refl
  where
    by : (o : Ordering) → token_cmp a b ≡ o → token_cmp a c ≡ Less
    by Less first = token_cmp-total.trans a b c first less
    by Equal tied = ap (λ (t : Token). token_cmp t c) (token_cmp-ties a b tied) ∙ less
    by Greater greater = absurd (not_greater a b up greater)

-- a token that is less than one that is not above another is less than that
pub less_up : (a b c : Token) → token_cmp a b ≡ Less → IsUpTo b c → token_cmp a c ≡ Less
less_up a b c less up = by (token_cmp b c) refl
  where
    by : (o : Ordering) → token_cmp b c ≡ o → token_cmp a c ≡ Less
    by Less second = token_cmp-total.trans a b c less second
    by Equal tied = ap (λ (t : Token). token_cmp a t) (sym (token_cmp-ties b c tied)) ∙ less
    by Greater greater = absurd (not_greater b c up greater)

-- a token that 16 bytes name
token_back : (token : Token) → Fits token → token_of_bytes (bytes_of token) ≡ token
token_back token fits = λ i. record { high = high_back token fits i; low = low_back token fits i }

-- a tap's token by its bytes
pub named_token : (tap : TapFields) (bytes : List ℕ) (token : Token) → tap.token ≡ bytes
    → bytes_of token ≡ bytes → Fits token → token_of_tap tap ≡ token
named_token tap bytes token same is fits =
    ap token_of_bytes (same ∙ sym is) ∙ token_back token fits
