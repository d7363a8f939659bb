-- Riders by tokens, looked up and put at their places by numbers and by bytes.
use Rattle.std.proofs.Common.{◌≡◌, ℕ, List, [], ◌∷◌, refl, ap, ◌∙◌, Ordering, Some, cond, All}
use Rattle.std.proofs.lemmas.List.Elements.{All-head, All-tail}
use Rattle.std.specs.BTreeMap.{insert_entry, is_at}
use Rattle.std.specs.{Cmp.Lexicographic.slice_cmp, Map.keys_of, Map.lookup}
use Rattle.std.specs.Ordering.{nat_cmp, is_eq, match_ordering}
use Rattle.std.specs.declared.cmp.Ordering.TheVariants.{Less, Equal, Greater}
use Rattle.tap_views.proofs.TokenBytes.{token-order}
use Rattle.tap_views.specs.{Token.Fits, Token.bytes_of, Token.token_cmp, declared.token.Token.Token}
use Rattle.tariffs.specs.Riders.{by_bytes}

-- a look-up by numbers finds what one by bytes finds
lookup-by_bytes : (token : Token) (entries : List (Token × ℕ)) → Fits token
    → All Fits (keys_of entries)
    → lookup (is_at (token_cmp token)) entries
    ≡ lookup (is_at (slice_cmp nat_cmp (bytes_of token))) (by_bytes entries)
lookup-by_bytes token [] fits all = refl
lookup-by_bytes token (entry ∷ entries) fits all =
    let rest = lookup-by_bytes token entries fits (All-tail Fits _ _ all) in
    let first = token-order token entry.0 fits (All-head Fits _ _ all) in
    ap (λ order. cond (is_eq order) (Some entry.1) (lookup (is_at (token_cmp token)) entries)) first
    ∙ ap (λ found. cond (is_eq (slice_cmp nat_cmp (bytes_of token) (bytes_of entry.0)))
    (Some entry.1) found) rest

-- the same, if the bytes are known by other names
pub found-by_bytes : (token : Token) (entries : List (Token × ℕ)) (bytes : List ℕ)
    (riders : List (List ℕ × ℕ))
    → Fits token → All Fits (keys_of entries) → bytes_of token ≡ bytes → by_bytes entries ≡ riders
    → lookup (is_at (token_cmp token)) entries ≡ lookup (is_at (slice_cmp nat_cmp bytes)) riders
found-by_bytes token entries bytes riders fits all same_bytes same_riders =
    lookup-by_bytes token entries fits all
    ∙ ap (λ request. lookup (is_at (slice_cmp nat_cmp request)) (by_bytes entries)) same_bytes
    ∙ ap (λ known. lookup (is_at (slice_cmp nat_cmp bytes)) known) same_riders

-- what is put at its place by numbers stands at its place by bytes
pub insert-by_bytes : (token : Token) (terms : ℕ) (entries : List (Token × ℕ)) → Fits token
    → All Fits (keys_of entries)
    → by_bytes (insert_entry token_cmp entries token terms)
    ≡ insert_entry (slice_cmp nat_cmp) (by_bytes entries) (bytes_of token) terms
insert-by_bytes token terms [] fits all = refl
insert-by_bytes token terms (entry ∷ entries) fits all =
    let rest = insert-by_bytes token terms entries fits (All-tail Fits _ _ all) in
    let first = token-order token entry.0 fits (All-head Fits _ _ all) in
    placed (token_cmp token entry.0) rest
    ∙ ap (λ order. match_ordering order ((bytes_of token, terms) ∷ by_bytes (entry ∷ entries))
    ((bytes_of entry.0, terms) ∷ by_bytes entries)
    ((bytes_of entry.0, entry.1)
    ∷ insert_entry (slice_cmp nat_cmp) (by_bytes entries) (bytes_of token) terms)) first
  where
    placed : (order : Ordering)
        → by_bytes (insert_entry token_cmp entries token terms)
        ≡ insert_entry (slice_cmp nat_cmp) (by_bytes entries) (bytes_of token) terms
        → by_bytes (match_ordering order ((token, terms) ∷ entry ∷ entries) ((entry.0, terms)
        ∷ entries) (entry ∷ insert_entry token_cmp entries token terms))
        ≡ match_ordering order ((bytes_of token, terms) ∷ by_bytes (entry ∷ entries))
        ((bytes_of entry.0, terms) ∷ by_bytes entries)
        ((bytes_of entry.0, entry.1)
        ∷ insert_entry (slice_cmp nat_cmp) (by_bytes entries) (bytes_of token) terms)
    placed Less rest = refl
    placed Equal rest = refl
    placed Greater rest = ap (λ more. (bytes_of entry.0, entry.1) ∷ more) rest
