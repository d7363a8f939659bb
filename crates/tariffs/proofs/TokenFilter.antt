-- Marks of tokens: what a further mark keeps, and what a mark that is missing says.
use Rattle.std.proofs.Common.{◌≡◌, ℕ, ◌<◌, Bool, true, false, List, [], ◌∷◌, None, Some, All, cond}
use Rattle.std.proofs.Common.{length, get_or, refl, sym, ◌∙◌, arith, ⊎_elim, slice_set}
use Rattle.std.proofs.lemmas.Bool.{cases_eq, Decides.nat_tests}
use Rattle.std.proofs.lemmas.List.{get_or-set_same, get_or-set_other, length-set}
use Rattle.std.proofs.lemmas.List.Elements.{All-head, All-tail}
use Rattle.std.specs.{BTreeMap.is_at, Map.keys_of, Map.lookup, Ordering.is_eq}
use Rattle.tap_views.specs.{Token.token_cmp, declared.token.Token.Token}
use Rattle.tariffs.specs.RiderFilter.{may_contain, filter_bit}

-- a further mark takes none away
marked-kept : (marks : List Bool) (i j : ℕ) → i < length marks → get_or marks j false ≡ true
    → get_or (slice_set marks i true) j false ≡ true
marked-kept marks i j inside marked =
    ⊎_elim
    (λ same. rw (← same) (get_or-set_same marks i true false inside))
    (λ other. get_or-set_other marks i j true false (λ e. other (sym e)) ∙ marked)
    (cases_eq i j)

-- with one more mark, the tokens that were marked still are
pub marked-more : (marks : List Bool) (i : ℕ) (token : Token) → i < length marks
    → may_contain marks token ≡ true → may_contain (slice_set marks i true) token ≡ true
marked-more marks i token inside marked =
    rw (length-set marks i true)
    (marked-kept marks i (filter_bit token (length marks)) inside marked)

-- the token whose place it is has the new mark
pub marked-new : (marks : List Bool) (i : ℕ) (token : Token) → i ≡ filter_bit token (length marks)
    → i < length marks → may_contain (slice_set marks i true) token ≡ true
marked-new marks i token at inside =
    rw (length-set marks i true, ← at) (get_or-set_same marks i true false inside)

-- tokens that compare as equal end alike
same_low : (a b : Token) → is_eq (token_cmp a b) ≡ true → a.low ≡ b.low
same_low a b same = grind (arith, nat_tests)

-- a token without a mark is not found among those that are marked
pub lookup-unmarked : (marks : List Bool) (token : Token) (entries : List (Token × ℕ))
    → All (λ key. may_contain marks key ≡ true) (keys_of entries)
    → may_contain marks token ≡ false → lookup (is_at (token_cmp token)) entries ≡ None
lookup-unmarked marks token [] all free = refl
lookup-unmarked marks token (element ∷ entries) all free =
    let head : may_contain marks element.0 ≡ true =
    All-head (λ key. may_contain marks key ≡ true) _ _ all in
    let rest = lookup-unmarked marks token entries
    (All-tail (λ key. may_contain marks key ≡ true) _ _ all) free in
    other (is_eq (token_cmp token element.0))
    (λ same. let low = same_low token element.0 same in cc)
    rest
  where
    other : (same : Bool) → (same ≡ true → false ≡ true)
        → lookup (is_at (token_cmp token)) entries ≡ None
        → cond same (Some element.1) (lookup (is_at (token_cmp token)) entries) ≡ None
    other true never rest = absurd (cc (never refl))
    other false never rest = rest
