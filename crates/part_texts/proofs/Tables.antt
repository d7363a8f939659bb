-- The sums by validator of a history, added to those of the history before it.
use Rattle.std.proofs.Common.{◌≡◌, ◌∙◌, ◌+◌, ◌≤◌, ◌^◌, ◌||◌, ℕ, Bool, true, false, cond, List, []}
use Rattle.std.proofs.Common.{◌∷◌, ◌++◌, length, map, filter, Some, None, refl, sym, ap, subst}
use Rattle.std.proofs.Common.{arith}
use Rattle.histories.proofs.IncreasingLemmas.{below_all, increasing-is, increasing-unique}
use Rattle.histories.proofs.SumsLemmas.{add_none, sums-append, sums-taps}
use Rattle.histories.specs.{Entry.is_at, Increasing.increasing}
use Rattle.histories.specs.Sums.{Sums, add_sums, sums, sums_of_replies}
use Rattle.histories.specs.SumsByKey.{entries_of_validator, sums_by_validator, validator_of}
use Rattle.histories.specs.{SumsByKey.validators, declared.entry.Entry.Entry}
use Rattle.part_texts.proofs.KeySums.{above_same, no_entries, number_reports, number_ties, table}
use Rattle.part_texts.proofs.KeySums.{table_same}
use Rattle.part_texts.specs.Fronts.{no_sums, sums_within, with_validator}
use Rattle.part_texts.specs.inside.Shown.{are_added}
use Rattle.std.proofs.Math.Bool.{or-false, or-true}
use Rattle.std.proofs.lemmas.{Bool.false≢true, Bool.Decides.nat_tests, Cmp.nat_cmp_total}
use Rattle.std.proofs.lemmas.List.{map-append, Elements.filter-append}
use Rattle.std.specs.{BTreeMap.insert_entry, BTreeMap.is_at as is_key, BTreeSet.insert_key}
use Rattle.std.specs.{List.AllByRecursion, List.Sorted.IsStrictlySortedBy, Map.lookup}
use Rattle.std.specs.Ordering.{eq_by_cmp, is_eq, match_ordering, nat_cmp}
use Rattle.std.specs.Prelude.{nat_le, unwrap_or}
use Rattle.std.specs.{Set.is_member, declared.cmp.Ordering.Ordering}
use Rattle.std.specs.declared.cmp.Ordering.TheVariants.{Less, Equal, Greater}

abbrev has : List ℕ → ℕ → Bool
has keys key = is_member (eq_by_cmp nat_cmp) keys key

-- one key's sums are set
set_one : (f g : ℕ → Sums) (v : ℕ) (x : Sums) (keys : List ℕ) → g v ≡ x
    → ((k : ℕ) → ¬ (k ≡ v) → f k ≡ g k) → IsStrictlySortedBy nat_cmp keys
    → insert_entry nat_cmp (table f keys) v x ≡ table g (insert_key nat_cmp keys v)
unfolding IsStrictlySortedBy
set_one f g v x [] here other increases = ap (λ (s : Sums). (v, s) ∷ []) (sym here)
set_one f g v x (k ∷ keys) here other increases =
    set_at (nat_cmp v k) refl (set_one f g v x keys here other increases.1)
  where
    set_at : (order : Ordering) → nat_cmp v k ≡ order
        → insert_entry nat_cmp (table f keys) v x ≡ table g (insert_key nat_cmp keys v)
        → match_ordering order ((v, x) ∷ (k, f k) ∷ table f keys) ((k, x) ∷ table f keys)
        ((k, f k) ∷ insert_entry nat_cmp (table f keys) v x)
        ≡ table g (match_ordering order (v ∷ k ∷ keys) (k ∷ keys) (k ∷ insert_key nat_cmp keys v))
    set_at Less less more =
        ap (λ (s : Sums). (v, s) ∷ (k, f k) ∷ table f keys) (sym here)
        ∙ ap (λ (t : List (ℕ × Sums)). (v, g v) ∷ t) (table_same f g (k ∷ keys) (
          other k (λ same. grind (arith, nat_tests, less, same)),
          above_same nat_cmp_total number_ties f g v keys other (below_all nat_cmp_total number_ties v k keys less increases.0),
        ))
    set_at Equal tied more =
        let same = number_ties v k tied in
        ap (λ (s : Sums). (k, s) ∷ table f keys) (sym here ∙ ap g same)
        ∙ ap (λ (t : List (ℕ × Sums)). (k, g k) ∷ t) (table_same f g keys
        (above_same nat_cmp_total number_ties f g v keys other
        (subst (λ (n : ℕ). AllByRecursion (λ z. nat_cmp n z ≡ Less) keys) (sym same) increases.0)))
    set_at Greater greater more =
        ap (λ (s : Sums). (k, s) ∷ insert_entry nat_cmp (table f keys) v x)
        (other k (λ same. grind (arith, nat_tests, greater, same)))
        ∙ ap (λ (t : List (ℕ × Sums)). (k, g k) ∷ t) more

-- what a key has; nothing if it is not among the keys
found : (f : ℕ → Sums) (v : ℕ) (keys : List ℕ) → (has keys v ≡ false → f v ≡ no_sums)
    → unwrap_or (lookup (is_key (nat_cmp v)) (table f keys)) no_sums ≡ f v
found f v [] none = sym (none refl)
found f v (k ∷ keys) none = found_at (nat_cmp v k) refl (found f v keys)
  where
    found_at : (order : Ordering) → nat_cmp v k ≡ order
        → ((has keys v ≡ false → f v ≡ no_sums)
        → unwrap_or (lookup (is_key (nat_cmp v)) (table f keys)) no_sums ≡ f v)
        → unwrap_or
        (cond (is_eq (nat_cmp v k)) (Some (f k)) (lookup (is_key (nat_cmp v)) (table f keys)))
        no_sums ≡ f v
    found_at Equal tied more = rw tied (ap f (sym (number_ties v k tied)))
    found_at Less order more = rw order (more (λ out. none (rw order out)))
    found_at Greater order more = rw order (more (λ out. none (rw order out)))

-- ---- one key more
sorted_more : (ks : List ℕ) (v : ℕ)
    → insert_key nat_cmp (increasing nat_cmp ks) v ≡ increasing nat_cmp (v ∷ ks)
unfolding increasing
sorted_more ks v = refl

-- ---- two histories, one behind the other
abbrev pub at_validator : ℕ → List Entry → Sums
at_validator v entries = sums (entries_of_validator v entries)

abbrev done_after : List ℕ → List ℕ → List ℕ
done_after done [] = done
done_after done (v ∷ vs) = done_after (v ∷ done) vs

done_has : (done vs : List ℕ) (k : ℕ) → has (done_after done vs) k ≡ (has done k || has vs k)
done_has done [] k = sym (or-false (has done k))
done_has done (v ∷ vs) k =
    done_has (v ∷ done) vs k ∙ or_moved (eq_by_cmp nat_cmp k v) (has done k) (has vs k)
  where
    or_moved : (a b c : Bool) → ((a || b) || c) ≡ (b || (a || c))
    or_moved true b c = sym (or-true b)
    or_moved false b c = refl

has_append : (xs ys : List ℕ) (q : ℕ) → has (xs ++ ys) q ≡ (has xs q || has ys q)
has_append [] ys q = refl
has_append (x ∷ xs) ys q =
    ap (λ b. eq_by_cmp nat_cmp q x || b) (has_append xs ys q)
    ∙ or_joined (eq_by_cmp nat_cmp q x) (has xs q) (has ys q)
  where
    or_joined : (a b c : Bool) → (a || (b || c)) ≡ ((a || b) || c)
    or_joined true b c = refl
    or_joined false b c = refl

keys_inserted : (xs ys : List Entry)
    → increasing nat_cmp (done_after (map validator_of xs) (validators ys)) ≡ validators (xs ++ ys)
unfolding validators
keys_inserted xs ys =
    let keys = done_after (map validator_of xs) (increasing nat_cmp (map validator_of ys)) in
    let joined = increasing-is nat_cmp_total number_ties keys in
    let back = increasing-is nat_cmp_total number_ties (map validator_of ys) in
    let whole = increasing-is nat_cmp_total number_ties (map validator_of (xs ++ ys)) in
    increasing-unique nat_cmp_total number_ties _ _ joined.increases whole.increases
    (λ q. joined.same q
    ∙ done_has (map validator_of xs) (increasing nat_cmp (map validator_of ys)) q
    ∙ ap (λ b. has (map validator_of xs) q || b) (back.same q)
    ∙ sym (has_append (map validator_of xs) (map validator_of ys) q)
    ∙ ap (λ keys. has keys q) (sym (map-append validator_of xs ys))
    ∙ sym (whole.same q))

nothing_summed : (entries : List Entry) → entries ≡ [] → sums entries ≡ no_sums
unfolding sums_of_replies
nothing_summed entries none = ap sums none

-- a validator that is none of the history's has no sums
pub none_at : (v : ℕ) (entries : List Entry) → has (validators entries) v ≡ false
    → at_validator v entries ≡ no_sums
unfolding validators entries_of_validator
none_at v entries none =
    nothing_summed (filter (is_at v) entries)
    (no_entries nat_cmp_total number_ties validator_of is_at number_reports v entries
    (sym ((increasing-is nat_cmp_total number_ties (map validator_of entries)).same v) ∙ none))

both_at : (v : ℕ) (xs ys : List Entry)
    → at_validator v (xs ++ ys) ≡ add_sums (at_validator v xs) (at_validator v ys)
unfolding entries_of_validator
both_at v xs ys =
    ap sums (filter-append (is_at v) xs ys)
    ∙ sums-append (filter (is_at v) xs) (filter (is_at v) ys)

-- sums of no more taps than any run has
fewer : (v : ℕ) (entries : List Entry) → length (entries_of_validator v entries) ≤ length entries
unfolding entries_of_validator
fewer v [] = omega arith
fewer v (e ∷ entries) = by (is_at v e) refl (fewer v entries)
  where
    by : (b : Bool) → is_at v e ≡ b → length (filter (is_at v) entries) ≤ length entries
        → length (filter (is_at v) (e ∷ entries)) ≤ length (e ∷ entries)
    by true is short = rw is (omega (arith, short))
    by false is short = rw is (omega (arith, short))

pub within : (a b c : Sums) → c ≡ add_sums a b → c.taps ≤ 2 ^ 95 → sums_within a b ≡ Some c
within a b c is few =
    let taps : c.taps ≡ a.taps + b.taps = ap (λ (s : Sums). s.taps) is in
    let t : nat_le (a.taps + b.taps) (2 ^ 95) ≡ true = grind (arith, nat_tests, taps, few) in
    ap (λ t. cond t (Some (add_sums a b)) None) t ∙ ap Some (sym is)

module _ (xs ys : List Entry) (few : length (xs ++ ys) ≤ 2 ^ 95) where
  -- the validators that are done have their sums in both histories
  abbrev mixed : List ℕ → ℕ → Sums
  mixed done v = cond (has done v) (at_validator v (xs ++ ys)) (at_validator v xs)

  mixed_out : (done : List ℕ) (v : ℕ) → has done v ≡ false → mixed done v ≡ at_validator v xs
  mixed_out done v out = rw out

  mixed_here : (done : List ℕ) (v : ℕ) → mixed (v ∷ done) v ≡ at_validator v (xs ++ ys)
  mixed_here done v = let t : is_eq (nat_cmp v v) ≡ true = grind (arith, nat_tests) in rw t

  mixed_other : (done : List ℕ) (v k : ℕ) → ¬ (k ≡ v) → mixed done k ≡ mixed (v ∷ done) k
  mixed_other done v k other =
      let t : is_eq (nat_cmp k v) ≡ false = grind (arith, nat_tests, other) in rw t

  one_more : (done ks : List ℕ) (v : ℕ) → has done v ≡ false
      → ((k : ℕ) → has ks k ≡ false → at_validator k xs ≡ no_sums)
      → with_validator (table (mixed done) (increasing nat_cmp ks)) (v, at_validator v ys)
      ≡ Some (table (mixed (v ∷ done)) (increasing nat_cmp (v ∷ ks)))
  one_more done ks v out of_xs =
      let keys = increasing nat_cmp ks in
      let risen = increasing-is nat_cmp_total number_ties ks in
      let here : unwrap_or (lookup (is_key (nat_cmp v)) (table (mixed done) keys)) no_sums
      ≡ at_validator v xs =
      found (mixed done) v keys
      (λ absent. mixed_out done v out ∙ of_xs v (sym (risen.same v) ∙ absent))
      ∙ mixed_out done v out in
      let small : (at_validator v (xs ++ ys)).taps ≤ 2 ^ 95 =
      (let n = sums-taps (entries_of_validator v (xs ++ ys)) in
      let f = fewer v (xs ++ ys) in omega (arith, n, f, few)) in
      rw (
        here,
        within (at_validator v xs) (at_validator v ys) (at_validator v (xs ++ ys))
            (both_at v xs ys) small,
      )
      (ap Some (set_one (mixed done) (mixed (v ∷ done)) v (at_validator v (xs ++ ys)) keys
      (mixed_here done v) (mixed_other done v) risen.increases
      ∙ ap (table (mixed (v ∷ done))) (sorted_more ks v)))

  still_out : (v : ℕ) (done vs : List ℕ) → AllByRecursion (λ u. nat_cmp v u ≡ Less) vs
      → AllByRecursion (λ u. has done u ≡ false) vs
      → AllByRecursion (λ u. has (v ∷ done) u ≡ false) vs
  still_out v done [] above out = tt
  still_out v done (u ∷ vs) above out =
      let less = above.0 in
      let t : is_eq (nat_cmp u v) ≡ false = grind (arith, nat_tests, less) in
      (ap (λ b. b || has done u) t ∙ out.0, still_out v done vs above.1 out.1)

  all_more : (done ks vs : List ℕ) → IsStrictlySortedBy nat_cmp vs
      → AllByRecursion (λ u. has done u ≡ false) vs
      → ((k : ℕ) → has ks k ≡ false → at_validator k xs ≡ no_sums)
      → are_added (table (mixed done) (increasing nat_cmp ks)) (table (λ v. at_validator v ys) vs)
      (table (mixed (done_after done vs)) (increasing nat_cmp (done_after ks vs)))
  unfolding IsStrictlySortedBy
  all_more done ks [] increase out of_xs = refl
  all_more done ks (v ∷ vs) increase out of_xs = (
    table (mixed (v ∷ done)) (increasing nat_cmp (v ∷ ks)),
    one_more done ks v out.0 of_xs,
    all_more (v ∷ done) (v ∷ ks) vs increase.1 (still_out v done vs increase.0 out.1)
        (λ k absent. of_xs k (second (eq_by_cmp nat_cmp k v) (has ks k) absent)),
  )
    where
      second : (a b : Bool) → (a || b) ≡ false → b ≡ false
      second true b none = absurd (false≢true (sym none))
      second false b none = none

  all_out : (vs : List ℕ) → AllByRecursion (λ u. has [] u ≡ false) vs
  all_out [] = tt
  all_out (v ∷ vs) = (refl, all_out vs)

  -- at last each validator has its sums in both
  ends_as : (k : ℕ) → mixed (done_after [] (validators ys)) k ≡ at_validator k (xs ++ ys)
  ends_as k = by (has (validators ys) k) refl
    where
      by : (b : Bool) → has (validators ys) k ≡ b
          → mixed (done_after [] (validators ys)) k ≡ at_validator k (xs ++ ys)
      by true is = rw (done_has [] (validators ys) k, is)
      by false is = rw (done_has [] (validators ys) k, is) (sym (add_none (at_validator k xs))
          ∙ ap (add_sums (at_validator k xs)) (nothing_summed [] refl ∙ sym (none_at k ys is))
          ∙ sym (both_at k xs ys))

  all_same : (f g : ℕ → Sums) (keys : List ℕ) → ((k : ℕ) → f k ≡ g k)
      → AllByRecursion (λ k. f k ≡ g k) keys
  all_same f g [] same = tt
  all_same f g (k ∷ keys) same = (same k, all_same f g keys same)

  -- the sums by validator of the second, added to those of the first, are those of both
  pub validators_added : are_added (sums_by_validator xs) (sums_by_validator ys)
      (sums_by_validator (xs ++ ys))
  unfolding sums_by_validator validators
  validators_added =
      let vs = increasing nat_cmp (map validator_of ys) in
      let front = increasing-is nat_cmp_total number_ties (map validator_of xs) in
      let back = increasing-is nat_cmp_total number_ties (map validator_of ys) in
      subst (λ (all : List (ℕ × Sums)). are_added (sums_by_validator xs) (sums_by_validator ys) all)
      (table_same (mixed (done_after [] vs)) (λ k. at_validator k (xs ++ ys))
      (increasing nat_cmp (done_after (map validator_of xs) vs))
      (all_same (mixed (done_after [] vs)) (λ k. at_validator k (xs ++ ys))
      (increasing nat_cmp (done_after (map validator_of xs) vs)) ends_as)
      ∙ ap (table (λ k. at_validator k (xs ++ ys))) (keys_inserted xs ys))
      (all_more [] (map validator_of xs) vs back.increases (all_out vs)
      (λ k absent. none_at k xs (front.same k ∙ absent)))
