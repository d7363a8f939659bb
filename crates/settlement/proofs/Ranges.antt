-- Parts that are ranges of tokens: their histories, one behind the other, are that of all taps.
use Rattle.std.proofs.Common.{◌≡◌, ℕ, ◌<◌, ◌≤◌, false, List, ◌++◌, [], length, get_or, map, refl}
use Rattle.std.proofs.Common.{sym, ap, subst, ◌∙◌, arith, All, inl, inr, w64, take, drop}
use Rattle.histories.proofs.SumsByToken.{none_of}
use Rattle.histories.specs.{Plain.token_of_bytes, SumsByKey.token_of}
use Rattle.settlement.proofs.{Concats.posted_apart, Own.IsNamedBy, TokenRuns.tokens_posted}
use Rattle.settlement.specs.Posted.{HasName, posted, token_of_tap}
use Rattle.std.proofs.lemmas.{Bool.cases_lt, Cmp.nat_list_cmp_total}
use Rattle.std.proofs.lemmas.List.Elements.{All-map, All-weaker}
use Rattle.std.specs.{Cmp.Lexicographic.slice_cmp, Int.from_be_bytes, Ordering.nat_cmp}
use Rattle.std.specs.{Ordering.ordering_reverse, Prelude.◌⊎◌}
use Rattle.std.specs.declared.cmp.Ordering.TheVariants.{Less, Greater}
use Rattle.tap_parts.proofs.{RangeLemmas.counts_ascend, TokenOrder.number_order}
use Rattle.tap_parts.specs.{Canonical.HasTokenBytes, Ranges.range_of_token}
use Rattle.tap_views.proofs.Lists.{All-unmap}
use Rattle.tap_views.proofs.TokenBytes.{back_byte, front_byte, token-order, two_numbers}
use Rattle.tap_views.proofs.TokenBytes.{eight_bytes, token_bytes, token_length}
use Rattle.tap_views.proofs.TokenLemmas.{token_eq-sym, less_apart}
use Rattle.tap_views.specs.{Layout.num, Token.bytes_of, Token.token_cmp, Token.token_eq}
use Rattle.tap_views.specs.{TokenOrder.AreBelow, declared.encoder.TapFields.TapFields}
use Rattle.tariffs.specs.Fares.{Fares}

-- ---- tokens of 16 bytes

pub has_name : (tap : TapFields) → HasTokenBytes tap → HasName tap
unfolding bytes_of
has_name tap is = record {
  named = two_numbers tap.token (take 8 tap.token) (drop 8 tap.token)
      (from_be_bytes w64 (take 8 tap.token)) (from_be_bytes w64 (drop 8 tap.token)) is.long is.bytes
      refl refl refl refl;
  fits = record {
    high = eight_bytes (take 8 tap.token) (front_byte tap.token 8 is.bytes);
    low = eight_bytes (drop 8 tap.token) (back_byte tap.token 8 is.bytes);
  };
}

-- a token that its bytes name has 16 bytes
pub has_token_bytes : (tap : TapFields) → IsNamedBy tap → HasTokenBytes tap
has_token_bytes tap named = record {
  long = ap length (sym named) ∙ token_length (token_of_bytes tap.token);
  bytes = λ i. subst (λ (bs : List ℕ). get_or bs i 0 < 256) named
      (token_bytes (token_of_bytes tap.token) i);
}

-- the token with the lesser number is below the other
lower_token : (a b : TapFields) → HasTokenBytes a → HasTokenBytes b → num a.token < num b.token
    → token_cmp (token_of_tap a) (token_of_tap b) ≡ Less
lower_token a b one other less =
    let of_a = has_name a one in
    let of_b = has_name b other in
    let greater : slice_cmp nat_cmp b.token a.token ≡ Greater =
    number_order a.token b.token (one.long ∙ sym other.long) one.bytes other.bytes less in
    token-order (token_of_tap a) (token_of_tap b) of_a.fits of_b.fits
    ∙ (λ i. slice_cmp nat_cmp (of_a.named i) (of_b.named i))
    ∙ nat_list_cmp_total.antisymm a.token b.token
    ∙ ap ordering_reverse greater

-- a token of a later range is above one of an earlier range
pub later_range : (bounds : List ℕ) (a b : TapFields) → HasTokenBytes a → HasTokenBytes b
    → range_of_token bounds a.token < range_of_token bounds b.token
    → token_cmp (token_of_tap a) (token_of_tap b) ≡ Less
later_range bounds a b one other less = by_number (cases_lt (num a.token) (num b.token))
  where
    by_number : (num a.token < num b.token) ⊎ (num b.token ≤ num a.token)
        → token_cmp (token_of_tap a) (token_of_tap b) ≡ Less
    by_number (inl below) = lower_token a b one other below
    by_number (inr most) =
        let increase = counts_ascend bounds (num b.token) (num a.token) most in
        absurd (omega (arith, increase, less))

-- ---- taps whose tokens are below those of others
-- each tap's token is below each of the others'
abbrev pub AreTapsBelow : List TapFields → List TapFields → Type 0
AreTapsBelow taps others =
    All (λ (tap : TapFields). All (λ (other : TapFields).
    token_cmp (token_of_tap tap) (token_of_tap other) ≡ Less) others) taps

pub to_tokens : (taps others : List TapFields) → AreTapsBelow taps others
    → AreBelow (map token_of_tap taps) (map token_of_tap others)
to_tokens taps others below =
    All-map (λ token. All (λ other. token_cmp token other ≡ Less) (map token_of_tap others))
    token_of_tap taps (λ i d inside.
    All-map (λ other. token_cmp (token_of_tap (get_or taps i d)) other ≡ Less) token_of_tap others
    (below i d inside))

pub to_taps : (taps others : List TapFields)
    → AreBelow (map token_of_tap taps) (map token_of_tap others) → AreTapsBelow taps others
to_taps taps others below = λ i d inside.
    All-unmap (λ other. token_cmp (token_of_tap (get_or taps i d)) other ≡ Less) token_of_tap others
    (All-unmap (λ token. All (λ other. token_cmp token other ≡ Less) (map token_of_tap others))
    token_of_tap taps below i d inside)

abbrev pub AreTokensBelow : List TapFields → List TapFields → Type 0
AreTokensBelow taps others = AreBelow (map token_of_tap taps) (map token_of_tap others)

-- ---- histories of parts, one behind the other
-- the history of taps below others, and of these, is both histories
pub posted_below : (fares : Fares) (taps others : List TapFields) → AreTokensBelow taps others
    → posted fares (taps ++ others) ≡ posted fares taps ++ posted fares others
posted_below fares taps others below =
    posted_apart fares taps others (λ i d inside.
    let token = token_of_tap (get_or others i d) in
    none_of token (posted fares taps)
    (All-weaker (λ t. All (λ o. token_cmp t o ≡ Less) (map token_of_tap others))
    (λ t. token_eq t token ≡ false) (λ t all.
    token_eq-sym t token
    ∙ less_apart t token
    (All-unmap (λ o. token_cmp t o ≡ Less) token_of_tap others all i d inside))
    (map token_of (posted fares taps))
    (subst (λ tokens. AreBelow tokens (map token_of_tap others))
    (sym (tokens_posted fares [] taps)) below)))
