-- The sums of the tokens add up to those of all corrections.
use Rattle.std.proofs.Common.{◌≡◌, ◌+◌, ℕ, List, [], ◌∷◌, Bool, true, false, cond, refl, sym, ap}
use Rattle.std.proofs.Common.{subst, ◌∙◌, arith, Option, None, Some}
use Rattle.ledger_changes.proofs.ByToken.{Listed, more_same, same_is}
use Rattle.ledger_changes.proofs.{Keys.tied, Sums.adds_up}
use Rattle.ledger_changes.specs.Changes.{AreCorrections, Pair, weight_of}
use Rattle.ledger_changes.specs.{Rows.is_same_text, Rows.text_cmp, Texts.cents_of}
use Rattle.ledger_changes.specs.Tokens.{AreTokensOf, TokensAddUp, of_token}
use Rattle.ledger_fields.specs.Rows.{Charge, Key, Row}
use Rattle.std.proofs.lemmas.List.Sums.{sum_by-cons}
use Rattle.std.proofs.lemmas.Map.{Keys.sorted_head, Keys.sorted_tail, Made.Contains-tail}
use Rattle.std.specs.List.{AllByRecursion, sum_by, Sorted.IsStrictlySortedBy}
use Rattle.std.specs.{Prelude.Contains, declared.cmp.Ordering.TheVariants.Less}

-- what a token has of a number that is the other token's
abbrev share : List ℕ → ℕ → List ℕ → ℕ
share x n t = cond (is_same_text t x) n 0

no_share : (x : List ℕ) (n : ℕ) (tokens : List (List ℕ))
    → AllByRecursion (λ later. text_cmp x later ≡ Less) tokens → sum_by (share x n) tokens ≡ 0
no_share x n [] above = refl
no_share x n (t ∷ tokens) above =
    let first : share x n t ≡ 0 = ap (λ (b : Bool). cond b n 0) (more_same x t above.0) in
    let rest = no_share x n tokens above.1 in
    let sum = sum_by-cons (share x n) t tokens in
    omega (arith, first, rest, sum)

one_share : (x : List ℕ) (n : ℕ) (tokens : List (List ℕ)) → IsStrictlySortedBy text_cmp tokens
    → Contains tokens x → sum_by (share x n) tokens ≡ n
one_share x n [] increasing is = absurd (omega (arith, is.1))
one_share x n (t ∷ tokens) increasing is =
    by_test (is_same_text t x) refl
    (one_share x n tokens (sorted_tail text_cmp t tokens increasing))
  where
    sum : sum_by (share x n) (t ∷ tokens) ≡ share x n t + sum_by (share x n) tokens
    sum = sum_by-cons (share x n) t tokens

    by_test : (b : Bool) → is_same_text t x ≡ b
        → (Contains tokens x → sum_by (share x n) tokens ≡ n) → sum_by (share x n) (t ∷ tokens) ≡ n
    by_test true e more =
        let first : share x n t ≡ n = ap (λ (b : Bool). cond b n 0) e in
        let rest = no_share x n tokens
        (subst (λ (y : List ℕ). AllByRecursion (λ later. text_cmp y later ≡ Less) tokens)
        (tied t x e) (sorted_head text_cmp t tokens increasing)) in
        let whole = sum in
        omega (arith, first, rest, whole)
    by_test false e more =
        let first : share x n t ≡ 0 = ap (λ (b : Bool). cond b n 0) e in
        let rest = more (Contains-tail t tokens x
        (λ same. absurd (let h : true ≡ false = sym (same_is t x same) ∙ e in cc)) is) in
        let whole = sum in
        omega (arith, first, rest, whole)

sum_of_both : (f g h : List ℕ → ℕ) → ((t : List ℕ) → h t ≡ f t + g t) → (tokens : List (List ℕ))
    → sum_by h tokens ≡ sum_by f tokens + sum_by g tokens
sum_of_both f g h each [] = refl
sum_of_both f g h each (t ∷ tokens) =
    let here = each t in
    let rest = sum_of_both f g h each tokens in
    let one = sum_by-cons f t tokens in
    let two = sum_by-cons g t tokens in
    let both = sum_by-cons h t tokens in
    omega (arith, here, rest, one, two, both)

module _ (f : Pair → ℕ) where
  pub of_one : List Pair → List ℕ → ℕ
  of_one changes t = sum_by f (of_token t changes)

  one_more : (change : Pair) (changes : List Pair) (t : List ℕ)
      → of_one (change ∷ changes) t ≡ share change.key.token (f change) t + of_one changes t
  unfolding of_one
  one_more change changes t = by_test (is_same_text t change.key.token)
    where
      by_test : (b : Bool) → sum_by f (cond b (change ∷ of_token t changes) (of_token t changes))
          ≡ cond b (f change) 0 + sum_by f (of_token t changes)
      by_test true = sum_by-cons f change (of_token t changes)
      by_test false = omega arith

  pub sums_by_token : (tokens : List (List ℕ)) → IsStrictlySortedBy text_cmp tokens
      → (changes : List Pair) → AllByRecursion (Listed tokens) changes
      → sum_by (of_one changes) tokens ≡ sum_by f changes
  unfolding of_one
  sums_by_token tokens increasing [] all =
      let zero : List ℕ → ℕ = λ t. 0 in
      let twice = sum_of_both zero zero zero (λ t. refl) tokens in omega (arith, twice)
  sums_by_token tokens increasing (change ∷ changes) all =
      let both = sum_of_both (share change.key.token (f change)) (of_one changes)
      (of_one (change ∷ changes)) (one_more change changes) tokens in
      let one = one_share change.key.token (f change) tokens increasing all.0 in
      let rest = sums_by_token tokens increasing changes all.1 in
      let sum = sum_by-cons f change changes in
      omega (arith, both, one, rest, sum)

weight_is : (key : Key) (side : Option Charge)
    → weight_of (λ key charge. charge.cents) key side ≡ cents_of side
weight_is key None = refl
weight_is key (Some charge) = refl

weights : (side : Pair → Option Charge) (changes : List Pair)
    → sum_by (λ change. weight_of (λ key charge. charge.cents) change.key (side change)) changes
    ≡ sum_by (λ change. cents_of (side change)) changes
weights side changes =
    ap (λ (f : Pair → ℕ). sum_by f changes) (λ i change. weight_is change.key (side change) i)

pub tokens_add : (old new : List Row) (changes : List Pair) (tokens : List (List ℕ))
    → AreCorrections old new changes → AreTokensOf changes tokens
    → TokensAddUp old new changes tokens
unfolding of_one
tokens_add old new changes tokens are by =
    let after = sums_by_token (λ change. cents_of change.after) tokens by.increasing changes by.all in
    let before = sums_by_token (λ change. cents_of change.before) tokens by.increasing changes
    by.all in
    let up = adds_up old new changes are (λ key charge. charge.cents) in
    let weight_after = weights (λ change. change.after) changes in
    let weight_before = weights (λ change. change.before) changes in
    omega (arith, after, before, up, weight_after, weight_before)
