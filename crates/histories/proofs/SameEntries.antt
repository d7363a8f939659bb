-- Histories with the same entries of each token have the same sums, in all and by key.
use Rattle.std.proofs.Common.{refl, sym, ◌∙◌, ap}
use Rattle.account_rule.specs.declared.reply.Reply.{Reply}
use Rattle.histories.proofs.SameUnderKeys.{same_elements}
use Rattle.histories.specs.Entry.{is_of, is_at, own, reply_of}
use Rattle.histories.specs.{Increasing.increasing, Increasing.IsIncreasing, Keys.same_token}
use Rattle.histories.specs.Sums.{sums, sums_of_replies, is_paid, is_transfer, is_capped, is_stale}
use Rattle.histories.specs.{Sums.is_unknown, SumsByKey.entries_of_validator, SumsByKey.validators}
use Rattle.histories.specs.SumsByKey.{tokens, sums_by_validator, sums_by_token, validator_of}
use Rattle.histories.specs.{SumsByKey.token_of, declared.entry.Entry.Entry}
use Rattle.std.proofs.lemmas.List.Sorted.{IsPermutation-map, length_permutation}
use Rattle.std.proofs.lemmas.List.Sorted.{sum_by-IsPermutation, list_any-IsPermutation}
use Rattle.std.specs.Ordering.{eq_by_cmp, nat_cmp}
use Rattle.std.specs.Prelude.{ℕ, ◌≡◌, ◌↔◌, cond, List, map, filter, IsPermutation}
use Rattle.std.specs.declared.cmp.Ordering.{Ordering}
use Rattle.tap_views.proofs.{Lists.filter-filter, TokenLemmas.token_eq-refl}
use Rattle.tap_views.specs.{Token.token_cmp, Token.token_eq, declared.token.Token.Token}

-- ---- the same elements have the same sums and keys
pub same_sums : (xs ys : List Entry) → IsPermutation xs ys → sums xs ≡ sums ys
unfolding sums_of_replies
same_sums xs ys moved =
    let replies = IsPermutation-map reply_of xs ys moved in
    let one = map reply_of xs in
    let other = map reply_of ys in
    λ i. record {
      taps = sym (length_permutation one other replies) i;
      paid = sym (sum_by-IsPermutation (λ (r : Reply). cond (is_paid r.answer) 1 0) one other
          replies) i;
      transfers = sym (sum_by-IsPermutation (λ (r : Reply). cond (is_transfer r.answer) 1 0) one
          other replies) i;
      capped = sym (sum_by-IsPermutation (λ (r : Reply). cond (is_capped r.answer) 1 0) one other
          replies) i;
      stale = sym (sum_by-IsPermutation (λ (r : Reply). cond (is_stale r.answer) 1 0) one other
          replies) i;
      unknown = sym (sum_by-IsPermutation (λ (r : Reply). cond (is_unknown r.answer) 1 0) one other
          replies) i;
      cents = sym (sum_by-IsPermutation (λ (r : Reply). r.cents) one other replies) i;
    }

pub same_increasing : {K : Type 0} (cmp : K → K → Ordering)
    → ((keys risen : List K) → IsIncreasing cmp keys risen ↔ (risen ≡ increasing cmp keys))
    → (xs ys : List K) → IsPermutation xs ys → increasing cmp xs ≡ increasing cmp ys
same_increasing cmp law xs ys moved =
    let is = (law xs (increasing cmp xs)).1 refl in
    (law ys (increasing cmp xs)).0 (record {
      increases = is.increases;
      same = λ key. is.same key ∙ list_any-IsPermutation (eq_by_cmp cmp key) xs ys moved;
    })

-- histories with the same entries of each token have the same entries, and so have those of one
-- validator
pub same_entries : (xs ys : List Entry) → ((token : Token) → own token xs ≡ own token ys)
    → IsPermutation xs ys
unfolding own
same_entries xs ys same =
    same_elements (λ (entry : Entry). entry.token) token_eq token_eq-refl same_token xs ys same

-- so have those of one validator
pub same_at : (validator : ℕ) (xs ys : List Entry) → ((token : Token) → own token xs ≡ own token ys)
    → (token : Token)
    → own token (entries_of_validator validator xs) ≡ own token (entries_of_validator validator ys)
unfolding own entries_of_validator
same_at validator xs ys same token =
    filter-filter (is_of token) (is_at validator) xs ∙ ap (filter (is_at validator)) (same token)
    ∙ sym (filter-filter (is_of token) (is_at validator) ys)

-- numbers rise to one list
abbrev pub IncreasingNumbers : Type 0
IncreasingNumbers = (keys risen : List ℕ)
    → IsIncreasing nat_cmp keys risen ↔ (risen ≡ increasing nat_cmp keys)

-- tokens rise to one list
abbrev pub IncreasingTokens : Type 0
IncreasingTokens = (keys risen : List Token) → IsIncreasing token_cmp keys risen
    ↔ (risen ≡ increasing token_cmp keys)

module _ (numbers : IncreasingNumbers) (names : IncreasingTokens) (xs ys : List Entry)
    (same : (token : Token) → own token xs ≡ own token ys) where
  -- the sums by validator are the same
  pub same_by_validator : sums_by_validator xs ≡ sums_by_validator ys
  unfolding sums_by_validator validators
  same_by_validator =
      let keys = same_increasing nat_cmp numbers (map validator_of xs) (map validator_of ys)
      (IsPermutation-map validator_of xs ys (same_entries xs ys same)) in
      let each : (v : ℕ) → sums (entries_of_validator v xs) ≡ sums (entries_of_validator v ys) =
      λ v. same_sums (entries_of_validator v xs) (entries_of_validator v ys)
      (same_entries (entries_of_validator v xs) (entries_of_validator v ys)
      (same_at v xs ys same)) in
      ap (map (λ (v : ℕ). (v, sums (entries_of_validator v xs)))) keys
      ∙ (λ i. map (λ (v : ℕ). (v, each v i)) (increasing nat_cmp (map validator_of ys)))

  -- the sums by token are the same
  pub same_by_token : sums_by_token xs ≡ sums_by_token ys
  unfolding sums_by_token tokens
  same_by_token =
      let keys = same_increasing token_cmp names (map token_of xs) (map token_of ys)
      (IsPermutation-map token_of xs ys (same_entries xs ys same)) in
      ap (map (λ (t : Token). (t, sums (own t xs)))) keys
      ∙ (λ i. map (λ (t : Token). (t, sums (same t i))) (increasing token_cmp (map token_of ys)))
