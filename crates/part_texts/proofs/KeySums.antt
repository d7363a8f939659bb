-- Tables of sums by rising keys. The sums by validator add up to the sums of the history, and so do
-- those by token.
use Rattle.std.proofs.Common.{refl, sym, ◌∙◌, ap, arith, subst}
use Rattle.histories.proofs.IncreasingLemmas.{below_all, increasing-is}
use Rattle.histories.proofs.SumsLemmas.{add_assoc, add_none, sums-append}
use Rattle.histories.specs.{Entry.is_at, Entry.is_of, Entry.own, Increasing.increasing}
use Rattle.histories.specs.Sums.{Sums, add_all, add_sums, sums}
use Rattle.histories.specs.SumsByKey.{entries_of_validator, sums_by_token, sums_by_validator}
use Rattle.histories.specs.SumsByKey.{token_of, tokens, validator_of, validators}
use Rattle.histories.specs.declared.entry.Entry.{Entry}
use Rattle.std.proofs.lemmas.Bool.{false≢true, true≢false, Decides.nat_tests}
use Rattle.std.proofs.lemmas.Cmp.{nat_cmp_total, tied_itself}
use Rattle.std.specs.{BTreeSet.insert_key, Cmp.Equal-is, Cmp.IsTotalOrder}
use Rattle.std.specs.List.{AllByRecursion, Sorted.IsStrictlySortedBy}
use Rattle.std.specs.Ordering.{eq_by_cmp, is_eq, match_ordering, nat_cmp}
use Rattle.std.specs.Prelude.{ℕ, ◌+◌, ◌≡◌, ◌||◌, Bool, true, false, List, [], ◌∷◌, filter, map}
use Rattle.std.specs.{Set.is_member, declared.cmp.Ordering.Ordering}
use Rattle.std.specs.declared.cmp.Ordering.TheVariants.{Less, Equal, Greater}
use Rattle.tap_views.proofs.TokenLemmas.{token_eq-refl, same_token, token_cmp-ties, token_cmp-total}
use Rattle.tap_views.specs.{Token.token_cmp, Token.token_eq, declared.token.Token.Token}

-- ---- sums
plus_swap : (a b c : ℕ) → a + (b + c) ≡ b + (a + c)
plus_swap a b c = omega arith

add_swap : (a b c : Sums) → add_sums a (add_sums b c) ≡ add_sums b (add_sums a c)
add_swap a b c = λ i. record {
  taps = plus_swap a.taps b.taps c.taps i;
  paid = plus_swap a.paid b.paid c.paid i;
  transfers = plus_swap a.transfers b.transfers c.transfers i;
  capped = plus_swap a.capped b.capped c.capped i;
  stale = plus_swap a.stale b.stale c.stale i;
  unknown = plus_swap a.unknown b.unknown c.unknown i;
  cents = plus_swap a.cents b.cents c.cents i;
}

-- the sums of keys, added up
abbrev pub all_added : {K : Type 0} → List (K × Sums) → Sums
all_added list = add_all (map (λ sum. sum.1) list)

-- ---- tables
-- each of the keys, with what it has
abbrev pub table : {K : Type 0} → (K → Sums) → List K → List (K × Sums)
table f keys = map (λ k. (k, f k)) keys

pub table_same : {K : Type 0} (f g : K → Sums) (keys : List K)
    → AllByRecursion (λ k. f k ≡ g k) keys → table f keys ≡ table g keys
table_same f g [] all = refl
table_same {K = K} f g (k ∷ keys) all =
    ap (λ (s : Sums). (k, s) ∷ table f keys) all.0
    ∙ ap (λ (t : List (K × Sums)). (k, g k) ∷ t) (table_same f g keys all.1)

module _ {K : Type 0} {cmp : K → K → Ordering} (total : IsTotalOrder cmp)
    (ties : (a b : K) → cmp a b ≡ Equal → a ≡ b) where
  apart : (v k : K) (order : Ordering) → cmp v k ≡ order → is_eq order ≡ false → ¬ (k ≡ v)
  apart v k order is other same =
      false≢true (sym other ∙ ap is_eq (sym is ∙ ap (cmp v) same ∙ tied_itself total v))

  pub above_same : (f g : K → Sums) (v : K) (keys : List K) → ((k : K) → ¬ (k ≡ v) → f k ≡ g k)
      → AllByRecursion (λ k. cmp v k ≡ Less) keys → AllByRecursion (λ k. f k ≡ g k) keys
  above_same f g v [] other above = tt
  above_same f g v (k ∷ keys) other above =
      (other k (apart v k Less above.0 refl), above_same f g v keys other above.1)

  not_above : (v : K) (keys : List K) → AllByRecursion (λ k. cmp v k ≡ Less) keys
      → is_member (eq_by_cmp cmp) keys v ≡ false
  not_above v [] above = refl
  not_above v (k ∷ keys) above = rw above.0 (not_above v keys above.1)

  -- one key has more: so much more is in all
  more_added : (f g : K → Sums) (v : K) (s : Sums) (keys : List K) → g v ≡ add_sums s (f v)
      → ((k : K) → ¬ (k ≡ v) → f k ≡ g k)
      → (is_member (eq_by_cmp cmp) keys v ≡ false → f v ≡ sums []) → IsStrictlySortedBy cmp keys
      → all_added (table g (insert_key cmp keys v)) ≡ add_sums s (all_added (table f keys))
  unfolding IsStrictlySortedBy
  more_added f g v s [] here other none increases =
      ap (λ x. add_sums x (sums [])) (here ∙ ap (add_sums s) (none refl) ∙ add_none s)
  more_added f g v s (k ∷ keys) here other none increases =
      by (cmp v k) refl (more_added f g v s keys here other)
    where
      by : (order : Ordering) → cmp v k ≡ order
          → ((is_member (eq_by_cmp cmp) keys v ≡ false → f v ≡ sums []) → IsStrictlySortedBy cmp keys
          → all_added (table g (insert_key cmp keys v)) ≡ add_sums s (all_added (table f keys)))
          → all_added (table g (match_ordering order (v ∷ k ∷ keys) (k ∷ keys)
          (k ∷ insert_key cmp keys v))) ≡ add_sums s (add_sums (f k) (all_added (table f keys)))
      by Less less more =
          let below = below_all total ties v k keys less increases.0 in
          ap (λ x. add_sums x (all_added (table g (k ∷ keys))))
          (here ∙ ap (add_sums s) (none (not_above v (k ∷ keys) (less, below))) ∙ add_none s)
          ∙ ap (λ t. add_sums s (all_added t)) (sym (table_same f g (k ∷ keys)
          (above_same f g v (k ∷ keys) other (less, below))))
      by Equal tied more =
          let same = ties v k tied in
          ap (λ t. add_sums (g k) (all_added t)) (sym (table_same f g keys (above_same f g v keys other
          (subst (λ n. AllByRecursion (λ z. cmp n z ≡ Less) keys) (sym same) increases.0))))
          ∙ ap (λ x. add_sums x (all_added (table f keys)))
          (ap g (sym same) ∙ here ∙ ap (λ x. add_sums s (f x)) same)
          ∙ add_assoc s (f k) (all_added (table f keys))
      by Greater greater more =
          ap (λ x. add_sums x (all_added (table g (insert_key cmp keys v))))
          (sym (other k (apart v k Greater greater refl)))
          ∙ ap (add_sums (f k)) (more (λ out. none (rw greater out)) increases.1)
          ∙ add_swap (f k) s (all_added (table f keys))

  -- ---- entries by a key
  module _ (key : Entry → K) (at : K → Entry → Bool)
      (reports : (k : K) (entry : Entry) → at k entry ≡ is_eq (cmp k (key entry))) where
    -- a key that no entry has
    pub no_entries : (v : K) (entries : List Entry)
        → is_member (eq_by_cmp cmp) (map key entries) v ≡ false → filter (at v) entries ≡ []
    no_entries v [] none = refl
    no_entries v (e ∷ entries) none =
        by (is_eq (cmp v (key e))) refl none (no_entries v entries)
      where
        by : (b : Bool) → is_eq (cmp v (key e)) ≡ b
            → (b || is_member (eq_by_cmp cmp) (map key entries) v) ≡ false
            → (is_member (eq_by_cmp cmp) (map key entries) v ≡ false → filter (at v) entries ≡ [])
            → filter (at v) (e ∷ entries) ≡ []
        by true is none more = absurd (false≢true (sym none))
        by false is none more = rw (reports v e ∙ is) (more none)

    abbrev its : List Entry → K → Sums
    its entries k = sums (filter (at k) entries)

    others : (e : Entry) (entries : List Entry) (k : K) → ¬ (k ≡ key e)
        → its entries k ≡ its (e ∷ entries) k
    others e entries k other = by (cmp k (key e)) refl
      where
        by : (order : Ordering) → cmp k (key e) ≡ order → its entries k ≡ its (e ∷ entries) k
        by Less is = rw (reports k e ∙ ap is_eq is)
        by Equal is = absurd (other (ties k (key e) is))
        by Greater is = rw (reports k e ∙ ap is_eq is)

    keys_add : (entries : List Entry)
        → all_added (table (its entries) (increasing cmp (map key entries))) ≡ sums entries
    unfolding increasing
    keys_add [] = refl
    keys_add (e ∷ entries) =
        let risen = increasing-is total ties (map key entries) in
        let here : its (e ∷ entries) (key e) ≡ add_sums (sums (e ∷ [])) (its entries (key e)) =
        rw (reports (key e) e ∙ ap is_eq (tied_itself total (key e)))
        (sums-append (e ∷ []) (filter (at (key e)) entries)) in
        more_added (its entries) (its (e ∷ entries)) (key e) (sums (e ∷ []))
        (increasing cmp (map key entries)) here (others e entries)
        (λ out. ap sums (no_entries (key e) entries (sym (risen.same (key e)) ∙ out)))
        risen.increases
        ∙ ap (add_sums (sums (e ∷ []))) (keys_add entries) ∙ sym (sums-append (e ∷ []) entries)

-- ---- validators and tokens
pub number_ties : (a b : ℕ) → nat_cmp a b ≡ Equal → a ≡ b
number_ties a b tied = grind (arith, nat_tests)

pub number_reports : (k : ℕ) (entry : Entry) → is_at k entry ≡ is_eq (nat_cmp k (validator_of entry))
number_reports k entry = grind (arith, nat_tests)

reports_by : (token k : Token) (a b : Bool) → token_eq token k ≡ a → is_eq (token_cmp k token) ≡ b
    → a ≡ b
reports_by token k true true is also = refl
reports_by token k true false is also =
    let yes : is_eq (token_cmp k token) ≡ true =
    ap (λ (other : Token). is_eq (token_cmp k other)) (same_token token k is)
    ∙ ap is_eq (tied_itself token_cmp-total k) in
    absurd (true≢false (sym yes ∙ also))
reports_by token k false true is also =
    let yes : token_eq token k ≡ true =
    ap (λ (other : Token). token_eq token other)
    (token_cmp-ties k token ((Equal-is (token_cmp k token)).0 also)) ∙ token_eq-refl token in
    absurd (true≢false (sym yes ∙ is))
reports_by token k false false is also = refl

token_reports : (k : Token) (entry : Entry) → is_of k entry ≡ is_eq (token_cmp k (token_of entry))
token_reports k entry =
    reports_by entry.token k (token_eq entry.token k) (is_eq (token_cmp k entry.token)) refl refl

pub validators_add : (entries : List Entry) → sums entries ≡ all_added (sums_by_validator entries)
unfolding sums_by_validator validators entries_of_validator
validators_add entries =
    sym (keys_add nat_cmp_total number_ties validator_of is_at number_reports entries)

pub tokens_add : (entries : List Entry) → sums entries ≡ all_added (sums_by_token entries)
unfolding sums_by_token tokens own
tokens_add entries =
    sym (keys_add token_cmp-total token_cmp-ties token_of is_of token_reports entries)
