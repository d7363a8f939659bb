-- The order of tokens is total, and only equal tokens tie; `==` of tokens is an equivalence.
use Rattle.std.proofs.Common.{◌≡◌, ℕ, true, false, List, take, drop, refl, sym, ap, ◌∙◌, arith, w64}
use Rattle.std.proofs.Common.{Bool, [], ◌∷◌, ◌++◌, ◌||◌}
use Rattle.std.proofs.{Math.Bool.or_assoc, lemmas.Bool.Decides.nat_tests}
use Rattle.std.proofs.lemmas.Cmp.{then_total, on_total, nat_cmp_total}
use Rattle.std.proofs.lemmas.{List.take_at, List.drop_at, Nat.from_be_bytes-to_be_bytes_8}
use Rattle.std.specs.Cmp.{IsEquivalence, IsTotalOrder}
use Rattle.std.specs.{Int.to_be_bytes, Int.from_be_bytes, Ordering.eq_by_cmp, Set.is_member}
use Rattle.std.specs.declared.cmp.Ordering.TheVariants.{Less, Equal}
use Rattle.tap_views.specs.Token.{Fits, bytes_of, token_cmp, token_eq}
use Rattle.tap_views.specs.declared.token.Token.{Token}

-- tokens that are equal by `==` are the same
pub same_token : (a b : Token) → token_eq a b ≡ true → a ≡ b
same_token a b h = grind arith

-- a token is equal to itself, and equality is the same both ways
pub token_eq-sym : (a b : Token) → token_eq a b ≡ token_eq b a
token_eq-sym a b = grind (arith, nat_tests)

-- a token is equal to itself
pub token_eq-refl : (a : Token) → token_eq a a ≡ true
token_eq-refl a = grind (arith, nat_tests)

-- the order of tokens is total
pub token_cmp-total : IsTotalOrder token_cmp
token_cmp-total = then_total (on_total (λ (token : Token). token.high) nat_cmp_total)
    (on_total (λ (token : Token). token.low) nat_cmp_total)

-- tokens that tie are the same
pub token_cmp-ties : (a b : Token) → token_cmp a b ≡ Equal → a ≡ b
token_cmp-ties a b tied = grind (arith, nat_tests)

-- tokens of which one is less are not equal
pub less_apart : (a b : Token) → token_cmp a b ≡ Less → token_eq b a ≡ false
less_apart a b less = grind (arith, nat_tests)

-- ---- whether a token is among those of a list
abbrev pub among : List Token → Token → Bool
among list token = is_member (eq_by_cmp token_cmp) list token

-- a token is among two lists if it is among one of them
pub among-append : (xs ys : List Token) (token : Token)
    → among (xs ++ ys) token ≡ (among xs token || among ys token)
among-append [] ys token = refl
among-append (x ∷ xs) ys token =
    ap (λ b. eq_by_cmp token_cmp token x || b) (among-append xs ys token)
    ∙ sym (or_assoc (eq_by_cmp token_cmp token x) (among xs token) (among ys token))

-- ---- the laws of `==`
pub token_eq-laws : IsEquivalence token_eq
token_eq-laws = record {
  refl = token_eq-refl;
  symm = token_eq-sym;
  congr =
      λ a b c same. ap (λ (t : Token). token_eq t c) (same_token a b same);
}

-- the high number is that of the first eight bytes
pub high_back : (token : Token) → Fits token
    → from_be_bytes w64 (take 8 (bytes_of token)) ≡ token.high
unfolding bytes_of
high_back token fits =
    ap (from_be_bytes w64) (take_at (to_be_bytes w64 token.high) (to_be_bytes w64 token.low) 8 refl)
    ∙ from_be_bytes-to_be_bytes_8 token.high fits.high

-- the low number is that of the other eight bytes
pub low_back : (token : Token) → Fits token
    → from_be_bytes w64 (drop 8 (bytes_of token)) ≡ token.low
unfolding bytes_of
low_back token fits =
    ap (from_be_bytes w64) (drop_at (to_be_bytes w64 token.high) (to_be_bytes w64 token.low) 8 refl)
    ∙ from_be_bytes-to_be_bytes_8 token.low fits.low

abbrev token_by : ℕ → ℕ → Token
token_by high low = record { high = high; low = low }

same_numbers : (a b c d : ℕ) → a ≡ c → b ≡ d → token_by a b ≡ token_by c d
same_numbers a b c d high low = cc

-- tokens of 16 bytes that have the same bytes are the same
pub bytes_of-injective : (a b : Token) → Fits a → Fits b → bytes_of a ≡ bytes_of b → a ≡ b
bytes_of-injective a b fits_a fits_b same =
    same_numbers a.high a.low b.high b.low
    (sym (high_back a fits_a) ∙ ap (λ (bytes : List ℕ). from_be_bytes w64 (take 8 bytes)) same
    ∙ high_back b fits_b)
    (sym (low_back a fits_a) ∙ ap (λ (bytes : List ℕ). from_be_bytes w64 (drop 8 bytes)) same
    ∙ low_back b fits_b)
