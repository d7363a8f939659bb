-- One entry more in the tally of its key.
use Rattle.std.proofs.Common.{Ordering, take, ◌≡◌, ℕ, ◌+◌, ◌≤◌, ◌^◌, Bool, true, false, cond, ◌||◌}
use Rattle.std.proofs.Common.{List, [], ◌∷◌, ◌++◌, length, map, Option, Some, None, refl, sym, ap}
use Rattle.std.proofs.Common.{subst, ◌∙◌, ⊎_elim, arith}
use Rattle.account_rule.specs.declared.reply.Reply.{Reply}
use Rattle.histories.proofs.IncreasingLemmas.{increasing-only, sorted-increases}
use Rattle.histories.proofs.SumsLemmas.{sums-append, sums-taps}
use Rattle.histories.specs.{ByKey.with_key, Entry.reply_of, Entry.own, Increasing.increasing}
use Rattle.histories.specs.Shown.{token_sum}
use Rattle.histories.specs.Sums.{Sums, sums, sums_of_replies, add_sums}
use Rattle.histories.specs.{SumsBy.sums_by, SumsByKey.sums_by_token, SumsByKey.tokens}
use Rattle.histories.specs.TalliesByKey.{AreByKey, MapHasRoom, kept_as, kept_sums}
use Rattle.histories.specs.{Tally.sums_of_tally, declared.entry.Entry.Entry}
use Rattle.histories.specs.declared.sums.{TokenSum.TokenSum, tally.Tally.Tally}
use Rattle.std.proofs.lemmas.Bool.{cases_Bool}
use Rattle.std.proofs.lemmas.List.{map-append, append-nil, take_all, Elements.filter-append}
use Rattle.std.proofs.lemmas.List.{Folds.list_any-append, Sorted.list_any-IsPermutation}
use Rattle.std.proofs.lemmas.List.Sums.{length-filter, count_by-le-length}
use Rattle.std.proofs.lemmas.Map.{Keys.IsDistinct-IsPermutation, Made.is_some-lookup}
use Rattle.std.specs.{Cmp.IsEquivalence, Cmp.IsTotalOrder, HashMap.HashMap, HashMap.get}
use Rattle.std.specs.{HashMap.Updates, List.list_any, List.IsDistinct, List.Sorted.IsPermutation}
use Rattle.std.specs.{List.Sorted.IsSorted, Map.lookup, Map.keys_of, Option.is_some}
use Rattle.std.specs.{Option.unwrap_or, Ordering.eq_by_cmp, Ordering.is_eq, Set.is_member}
use Rattle.tap_views.specs.declared.token.Token.{Token}

or-true : (a : Bool) → true ≡ (a || (true || false))
or-true true = refl
or-true false = refl

or-false : (a : Bool) → a ≡ (a || (false || false))
or-false true = refl
or-false false = refl

-- what an entry is added to holds the sums that were kept for its key
pub kept-or : {V : Type 0} (summed : V → Sums) (kept : Option V) (fresh counted : V)
    → counted ≡ unwrap_or kept fresh → summed fresh ≡ sums_of_replies []
    → summed counted ≡ kept_as summed kept
kept-or summed None fresh counted is none = ap summed is ∙ none
kept-or summed (Some kept) fresh counted is none = ap summed is

-- the sums of a key's entries count no more taps than there are entries
pub taps-few : {K : Type 0} (eq : K → K → Bool) (key_of : Entry → K) (key : K)
    (entries : List Entry) (kept : Sums) → kept ≡ sums (with_key eq key_of key entries)
    → kept.taps ≤ length entries
unfolding with_key
taps-few eq key_of key entries kept is =
    let count : kept.taps ≡ length (with_key eq key_of key entries) =
    ap (λ (s : Sums). s.taps) is ∙ sums-taps (with_key eq key_of key entries) in
    omega (
      arith,
      count,
      length-filter (λ (entry : Entry). eq (key_of entry) key) entries,
      count_by-le-length (λ (entry : Entry). eq (key_of entry) key) entries,
    )

-- so there is room for more where there is room for the entries
pub room-kept : {K : Type 0} (eq : K → K → Bool) (key_of : Entry → K) (pairs : List (K × Tally))
    (key : K) (taps more : ℕ) → MapHasRoom eq key_of pairs more
    → taps ≡ (kept_sums (lookup (eq key) pairs)).taps → taps + more ≤ 2 ^ 95
unfolding MapHasRoom
room-kept eq key_of pairs key taps more room is =
    let few = taps-few eq key_of key room.0 (kept_sums (lookup (eq key) pairs))
    (room.1.sums key) in
    let bound : length room.0 + more ≤ 2 ^ 95 = room.2 in
    omega (arith, is, few, bound)

module _ {K : Type 0} {eq : K → K → Bool} (laws : IsEquivalence eq)
    (same : (a b : K) → eq a b ≡ true → a ≡ b) (key_of : Entry → K) where
  with_key-push : (key : K) (before : List Entry) (entry : Entry)
      → with_key eq key_of key (before ++ entry ∷ [])
      ≡ with_key eq key_of key before ++ cond (eq (key_of entry) key) (entry ∷ []) []
  unfolding with_key
  with_key-push key before entry = filter-append (λ e. eq (key_of e) key) before (entry ∷ [])

  module _ (before : List Entry) (entry : Entry) (old new : K → Sums) (had has : K → Bool)
      (added : new (key_of entry) ≡ add_sums (old (key_of entry))
      (sums_of_replies (reply_of entry ∷ []))) (here : has (key_of entry) ≡ true)
      (others : (q : K) → eq (key_of entry) q ≡ false → (new q ≡ old q) × (has q ≡ had q)) where
    -- one entry more in the sums of its key, and the other sums as they were
    pub sums-push : ((q : K) → old q ≡ sums (with_key eq key_of q before))
        → (q : K) → new q ≡ sums (with_key eq key_of q (before ++ entry ∷ []))
    sums-push is q =
        ⊎_elim
        (λ (same_key : eq (key_of entry) q ≡ true).
        ap new (sym (same (key_of entry) q same_key))
        ∙ added
        ∙ ap (λ (s : Sums). add_sums s (sums_of_replies (reply_of entry ∷ [])))
        (is (key_of entry)
        ∙ ap (λ (k : K). sums (with_key eq key_of k before)) (same (key_of entry) q same_key))
        ∙ sym (sums-append (with_key eq key_of q before) (entry ∷ []))
        ∙ ap (λ (b : Bool). sums (with_key eq key_of q before ++ cond b (entry ∷ []) []))
        (sym same_key)
        ∙ ap sums (sym (with_key-push q before entry)))
        (λ (apart : eq (key_of entry) q ≡ false).
        (others q apart).0
        ∙ is q
        ∙ ap sums (sym (append-nil (with_key eq key_of q before)))
        ∙ ap (λ (b : Bool). sums (with_key eq key_of q before ++ cond b (entry ∷ []) []))
        (sym apart)
        ∙ ap sums (sym (with_key-push q before entry)))
        (cases_Bool (eq (key_of entry) q))

    -- and its key among the keys
    pub keys-push : ((q : K) → had q ≡ is_member eq (map key_of before) q)
        → (q : K) → has q ≡ is_member eq (map key_of (before ++ entry ∷ [])) q
    keys-push is q =
        ⊎_elim
        (λ (same_key : eq (key_of entry) q ≡ true).
        ap has (sym (same (key_of entry) q same_key))
        ∙ here
        ∙ or-true (is_member eq (map key_of before) q)
        ∙ ap (λ (b : Bool). is_member eq (map key_of before) q || (b || false))
        (sym (laws.symm q (key_of entry) ∙ same_key))
        ∙ sym member-push)
        (λ (apart : eq (key_of entry) q ≡ false).
        (others q apart).1
        ∙ is q
        ∙ or-false (is_member eq (map key_of before) q)
        ∙ ap (λ (b : Bool). is_member eq (map key_of before) q || (b || false))
        (sym (laws.symm q (key_of entry) ∙ apart))
        ∙ sym member-push)
        (cases_Bool (eq (key_of entry) q))
      where
        member-push : is_member eq (map key_of (before ++ entry ∷ [])) q
            ≡ (is_member eq (map key_of before) q || (eq q (key_of entry) || false))
        member-push =
            ap (λ (ks : List K). list_any (eq q) ks) (map-append key_of before (entry ∷ []))
            ∙ list_any-append (eq q) (map key_of before) (key_of entry ∷ [])

  -- the same of tallies by key
  pub by_key-push : (before : List Entry) (entry : Entry) (old new : List (K × Tally))
      (totals : Tally)
      → ((q : K) → lookup (eq q) new ≡ cond (eq (key_of entry) q) (Some totals) (lookup (eq q) old))
      → sums_of_tally totals
      ≡ add_sums (kept_sums (lookup (eq (key_of entry)) old))
      (sums_of_replies (reply_of entry ∷ []))
      → AreByKey eq key_of before old → AreByKey eq key_of (before ++ entry ∷ []) new
  by_key-push before entry old new totals updates added by_key =
      let k = key_of entry in
      let kept : List (K × Tally) → K → Sums = λ pairs q. kept_sums (lookup (eq q) pairs) in
      let keeps : List (K × Tally) → K → Bool = λ pairs q. is_some (lookup (eq q) pairs) in
      let at : lookup (eq k) new ≡ Some totals =
      updates k ∙ ap (λ (b : Bool). cond b (Some totals) (lookup (eq k) old)) (laws.refl k) in
      let is_added = ap kept_sums at ∙ added in
      let is_there = ap is_some at in
      let others : (q : K) → eq k q ≡ false
      → (kept new q ≡ kept old q) × (keeps new q ≡ keeps old q) =
      λ q apart.
      let kept_there : lookup (eq q) new ≡ lookup (eq q) old =
      updates q ∙ ap (λ (b : Bool). cond b (Some totals) (lookup (eq q) old)) apart in
      (ap kept_sums kept_there, ap is_some kept_there) in
      record {
        sums = sums-push before entry (kept old) (kept new) (keeps old) (keeps new) is_added
            is_there others by_key.sums;
        keys = keys-push before entry (kept old) (kept new) (keeps old) (keeps new) is_added
            is_there others by_key.keys;
      }

  -- the same, as a map's entry has it once its value was written
  pub by_key-written : {S : Type 0} (before : List Entry) (entry : Entry) (key : K)
      (old next : HashMap K Tally S) (pairs : List (K × Tally)) (kept : Tally) (fresh : Tally)
      (totals : Tally) (answered : Reply)
      → key ≡ key_of entry
      → pairs ≡ next.entries
      → Updates eq old next key (Some totals)
      → kept ≡ unwrap_or (get eq old key) fresh
      → sums_of_tally fresh ≡ sums_of_replies []
      → answered ≡ reply_of entry
      → sums_of_tally totals ≡ add_sums (sums_of_tally kept) (sums_of_replies (answered ∷ []))
      → AreByKey eq key_of before old.entries → AreByKey eq key_of (before ++ entry ∷ []) pairs
  by_key-written before entry key old next pairs kept fresh totals answered is_key same_pairs
      updates is_kept none is_reply added by_key =
      by_key-push before entry old.entries pairs totals
      (λ q. ap (λ (es : List (K × Tally)). lookup (eq q) es) same_pairs ∙ updates.0 q
      ∙ ap (λ (k : K). cond (eq k q) (Some totals) (lookup (eq q) old.entries)) is_key)
      (added
      ∙ ap (λ (s : Sums). add_sums s (sums_of_replies (answered ∷ [])))
      (kept-or sums_of_tally (get eq old key) fresh kept is_kept none
      ∙ ap (λ (k : K). kept_sums (get eq old k)) is_key)
      ∙ ap (λ (r : Reply). add_sums (kept_sums (get eq old (key_of entry)))
      (sums_of_replies (r ∷ []))) is_reply)
      by_key

-- the keys of the totals, once sorted, are the rising keys of the entries
pub keys-increasing : {K : Type 0} {cmp : K → K → Ordering} {eq : K → K → Bool}
    (total : IsTotalOrder cmp) (laws : IsEquivalence eq) (same : (a b : K) → eq a b ≡ true → a ≡ b)
    (ties : (a b : K) → eq a b ≡ eq_by_cmp cmp a b)
    (key_of : Entry → K) (entries : List Entry) (pairs : List (K × Tally)) (keys sorted : List K)
    → keys ≡ keys_of pairs → IsDistinct eq (keys_of pairs) → IsPermutation keys sorted
    → IsSorted cmp sorted → AreByKey eq key_of entries pairs
    → sorted ≡ increasing cmp (map key_of entries)
keys-increasing {K = K} {cmp = cmp} {eq = eq} total laws same ties key_of entries pairs keys sorted
    is_keys distinct moved in_order by_key =
    let alike : eq ≡ eq_by_cmp cmp = λ i a b. ties a b i in
    let apart : IsDistinct eq keys =
    subst (λ (ks : List K). IsDistinct eq ks) (sym is_keys) distinct in
    increasing-only total (λ a b tied. same a b (ties a b ∙ ap is_eq tied)) (map key_of entries) sorted
    (record {
      increases = sorted-increases total (λ a b tied. same a b (ties a b ∙ ap is_eq tied)) sorted in_order
          (subst (λ (e : K → K → Bool). IsDistinct e sorted) alike
          (IsDistinct-IsPermutation eq laws.symm keys sorted moved apart));
      same = λ q. subst
          (λ (e : K → K → Bool). is_member e sorted q ≡ is_member e (map key_of entries) q) alike
          (sym (list_any-IsPermutation (eq q) keys sorted moved)
          ∙ ap (λ (ks : List K). list_any (eq q) ks) is_keys ∙ sym (is_some-lookup (eq q) pairs)
          ∙ by_key.keys q);
    })

-- the rising keys, each with its kept sums, are the sums of the entries
pub sums-listed : {K : Type 0} (cmp : K → K → Ordering) (eq : K → K → Bool) (key_of : Entry → K)
    (entries : List Entry) (pairs : List (K × Tally)) (keys items : List K) (n : ℕ)
    (shown : List (K × Sums))
    → shown ≡ map (λ key. (key, kept_sums (lookup (eq key) pairs))) (take n items)
    → length items ≤ n
    → items ≡ keys
    → keys ≡ increasing cmp (map key_of entries)
    → AreByKey eq key_of entries pairs
    → shown ≡ sums_by cmp eq key_of entries
unfolding sums_by
sums-listed {K = K} cmp eq key_of entries pairs keys items n shown is whole same_items risen
    by_key =
    is
    ∙ ap (λ (ks : List K). map (λ key. (key, kept_sums (lookup (eq key) pairs))) ks)
    (take_all n items whole ∙ same_items ∙ risen)
    ∙ (λ i. map (λ key. (key, by_key.sums key i)) (increasing cmp (map key_of entries)))

-- no totals stand for no entries
pub by_key-none : {K : Type 0} (eq : K → K → Bool) (key_of : Entry → K) (pairs : List (K × Tally))
    → pairs ≡ [] → AreByKey eq key_of [] pairs
unfolding with_key
by_key-none {K = K} eq key_of pairs none =
    subst (λ (es : List (K × Tally)). AreByKey eq key_of [] es) (sym none)
    (record { sums = λ key. refl; keys = λ key. refl })

-- the tokens of the sums by token are the tokens
map-first : {K : Type 0} (f : K → Sums) (keys : List K)
    → map (λ (pair : K × Sums). pair.0) (map (λ key. (key, f key)) keys) ≡ keys
map-first f [] = refl
map-first f (key ∷ keys) = ap (λ ks. key ∷ ks) (map-first f keys)

map-token : (list : List TokenSum)
    → map (λ (pair : Token × Sums). pair.0) (map token_sum list)
    ≡ map (λ (sum : TokenSum). sum.token) list
map-token [] = refl
map-token (sum ∷ list) = ap (λ ts. sum.token ∷ ts) (map-token list)

pub tokens-of-sums : (entries : List Entry) (list : List TokenSum)
    → map token_sum list ≡ sums_by_token entries
    → map (λ (sum : TokenSum). sum.token) list ≡ tokens entries
unfolding sums_by_token
tokens-of-sums entries list is =
    sym (map-token list)
    ∙ ap (λ (pairs : List (Token × Sums)). map (λ (pair : Token × Sums). pair.0) pairs) is
    ∙ map-first (λ token. sums (own token entries)) (tokens entries)
