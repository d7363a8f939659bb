-- Lists of tokens with the sums of their entries: of one book, of two lists joined, and sorted.
use Rattle.std.proofs.Common.{◌≡◌, ℕ, ◌+◌, ◌<◌, ◌≤◌, Bool, true, false, cond, ◌||◌, List, [], ◌∷◌}
use Rattle.std.proofs.Common.{◌++◌, length, take, get_or, map, filter, Some, None, refl, sym, ap}
use Rattle.std.proofs.Common.{subst, ◌∙◌, ⊎_elim, arith}
use Rattle.histories.proofs.IncreasingLemmas.{increasing-only, sorted-increases}
use Rattle.histories.specs.{Counts.sums_of_counts, Counts.token_counts, Entry.is_of, Entry.own}
use Rattle.histories.specs.Sums.{Sums, sums, sums_of_replies, has_taps}
use Rattle.histories.specs.SumsByKey.{token_of, tokens, sums_by_token}
use Rattle.histories.specs.declared.{entry.Entry.Entry, sums.counts.TokenCounts.TokenCounts}
use Rattle.indexmap.specs.IndexMap.{get}
use Rattle.shard_book.proofs.{BookSums.all-more, CountingLemmas.own-member}
use Rattle.shard_book.specs.Book.{Book, AreOfShard, all_entries}
use Rattle.shard_book.specs.declared.accounts.{Accounts.Accounts, KeptAccount.KeptAccount}
use Rattle.shard_book.specs.inside.Accounts.{kept_at, counted, is_used, pair_of, pairs_of}
use Rattle.shard_book.specs.inside.Counting.{AreCounted, AreSummed, AddsSums, AreBelow}
use Rattle.std.proofs.lemmas.Bool.{cases_Bool, false≢true, Decides.nat_tests}
use Rattle.std.proofs.lemmas.List.{map-append, length-map, append-nil, get_or-map}
use Rattle.std.proofs.lemmas.List.Elements.{All-append, All-contains_itself, All-map, All-weaker}
use Rattle.std.proofs.lemmas.List.Elements.{All-nil, All-from_recursion, recursion_from_All}
use Rattle.std.proofs.lemmas.List.Elements.{filter-append, All-filter}
use Rattle.std.proofs.lemmas.List.{Folds.list_any-append, Sorted.All-permutation}
use Rattle.std.proofs.lemmas.List.Sorted.{IsPermutation-map, list_any-IsPermutation}
use Rattle.std.proofs.lemmas.Map.Keys.{IsDistinct-IsPermutation, IsDistinct-head, IsDistinct-tail}
use Rattle.std.proofs.lemmas.Map.Made.{All-is_member, IsDistinct-keys_filter, keys_of-map_values}
use Rattle.std.proofs.lemmas.Map.Views.{lookup-from_Contains}
use Rattle.std.specs.List.{All, AllByRecursion, Contains, IsDistinct, slice_get}
use Rattle.std.specs.List.Sorted.{IsPermutation, IsSorted, IsSortedByKey}
use Rattle.std.specs.{Map.keys_of, Map.lookup, Ordering.eq_by_cmp, Ordering.is_lt, Set.is_member}
use Rattle.tap_views.proofs.TokenLemmas.{same_token, token_eq-sym, token_eq-laws, token_cmp-total}
use Rattle.tap_views.proofs.TokenLemmas.{token_cmp-ties}
use Rattle.tap_views.specs.{Shards.shard_of_token, Token.bytes_of, Token.token_eq, Token.token_cmp}
use Rattle.tap_views.specs.declared.token.Token.{Token}

-- a token that is apart from all keys is apart from those that a test leaves
member-apart : (test : Token × KeptAccount → Bool) (token : Token) (es : List (Token × KeptAccount))
    → AllByRecursion (λ there. token_eq token there ≡ false) (keys_of es)
    → is_member token_eq (keys_of (filter test es)) token ≡ false
member-apart test token [] apart = refl
member-apart test token (e ∷ es) apart = by (test e) (member-apart test token es apart.1)
  where
    by : (b : Bool) → is_member token_eq (keys_of (filter test es)) token ≡ false
        → is_member token_eq (keys_of (cond b (e ∷ filter test es) (filter test es))) token ≡ false
    by true rest = ap (λ (b : Bool). b || is_member token_eq (keys_of (filter test es)) token)
        apart.0 ∙ rest
    by false rest = rest

-- a token is among those that have taps exactly if the sums that are kept of it have
used-member : (token : Token) (es : List (Token × KeptAccount)) → IsDistinct token_eq (keys_of es)
    → is_member token_eq (keys_of (filter is_used es)) token
    ≡ has_taps (counted (lookup (token_eq token) es))
unfolding sums_of_replies
used-member token [] distinct = refl
used-member token (e ∷ es) distinct =
    ⊎_elim
    (λ (here : token_eq token e.0 ≡ true). there here (is_used e)
    ∙ ap (λ (b : Bool). has_taps (counted (cond b (Some e.1) (lookup (token_eq token) es))))
    (sym here))
    (λ (apart : token_eq token e.0 ≡ false). past apart (is_used e)
    ∙ used-member token es (IsDistinct-tail token_eq e.0 (keys_of es) distinct)
    ∙ ap (λ (b : Bool). has_taps (counted (cond b (Some e.1) (lookup (token_eq token) es))))
    (sym apart))
    (cases_Bool (token_eq token e.0))
  where
    there : token_eq token e.0 ≡ true → (b : Bool)
        → is_member token_eq (keys_of (cond b (e ∷ filter is_used es) (filter is_used es))) token
        ≡ b
    there here true = ap (λ (b : Bool). b || is_member token_eq (keys_of (filter is_used es)) token)
        here
    there here false = member-apart is_used token es
        (subst (λ (t : Token). AllByRecursion (λ there. token_eq t there ≡ false) (keys_of es))
        (sym (same_token token e.0 here)) (IsDistinct-head token_eq e.0 (keys_of es) distinct))

    past : token_eq token e.0 ≡ false → (b : Bool)
        → is_member token_eq (keys_of (cond b (e ∷ filter is_used es) (filter is_used es))) token
        ≡ is_member token_eq (keys_of (filter is_used es)) token
    past apart true = ap (λ (b : Bool). b || is_member token_eq (keys_of (filter is_used es)) token)
        apart
    past apart false = refl

-- what is kept of the tokens, as the map gives it
pub summed-kept : (accounts : Accounts) (entries : List Entry)
    → IsDistinct token_eq (keys_of accounts.map.entries) → AreCounted accounts entries
    → AreSummed entries (pairs_of accounts)
unfolding kept_at pairs_of
summed-kept accounts entries distinct counts =
    let used : List (Token × KeptAccount) = filter is_used accounts.map.entries in
    let found : All (λ kept. get token_eq accounts.map kept.0 ≡ Some kept.1) accounts.map.entries =
    All-weaker (Contains accounts.map.entries)
    (λ (kept : Token × KeptAccount). get token_eq accounts.map kept.0 ≡ Some kept.1)
    (λ kept here. lookup-from_Contains token_eq-laws kept.0 kept.1 accounts.map.entries distinct
    here) accounts.map.entries (All-contains_itself accounts.map.entries) in
    let keys : keys_of (pairs_of accounts) ≡ keys_of used =
    keys_of-map_values (λ (kept : KeptAccount). sums_of_counts kept.counts) used in
    record {
      each = All-map (λ (pair : Token × Sums). pair.1 ≡ sums (own pair.0 entries)) pair_of used
          (All-weaker
          (λ (kept : Token × KeptAccount). get token_eq accounts.map kept.0 ≡ Some kept.1)
          (λ (kept : Token × KeptAccount). sums_of_counts kept.1.counts ≡ sums (own kept.0 entries))
          (λ kept is. sym (ap counted is) ∙ counts.sums kept.0) used
          (All-filter is_used
          (λ (kept : Token × KeptAccount). get token_eq accounts.map kept.0 ≡ Some kept.1)
          accounts.map.entries found));
      once = subst (λ (ts : List Token). IsDistinct token_eq ts) (sym keys)
          (IsDistinct-keys_filter token_eq is_used accounts.map.entries distinct);
      keys = λ token. ap (λ (ts : List Token). is_member token_eq ts token) keys
          ∙ used-member token accounts.map.entries distinct ∙ ap has_taps (counts.sums token)
          ∙ own-member token entries;
    }

-- what holds of each entry's token holds of each token that the entries have
member-holds : (P : Token → Type 0) (token : Token) (entries : List Entry)
    → AllByRecursion (λ entry. P entry.token) entries
    → is_member token_eq (map token_of entries) token ≡ true → P token
member-holds P token [] all is = absurd (false≢true is)
member-holds P token (entry ∷ entries) all is =
    ⊎_elim
    (λ (here : token_eq token entry.token ≡ true). subst P (sym (same_token token entry.token here))
    all.0)
    (λ (apart : token_eq token entry.token ≡ false). member-holds P token entries all.1
    (ap (λ (b : Bool). b || is_member token_eq (map token_of entries) token) (sym apart) ∙ is))
    (cases_Bool (token_eq token entry.token))

-- what holds of each key holds of each pair
keys-hold : (P : Token → Type 0) (pairs : List (Token × Sums)) → AllByRecursion P (keys_of pairs)
    → AllByRecursion (λ pair. P pair.0) pairs
keys-hold P [] all = tt
keys-hold P (pair ∷ pairs) all = (all.0, keys-hold P pairs all.1)

-- so it holds of each token that is summed
summed-hold : (P : Token → Type 0) (entries : List Entry) (pairs : List (Token × Sums))
    → AreSummed entries pairs → All (λ entry. P entry.token) entries
    → AllByRecursion P (keys_of pairs)
summed-hold P entries pairs summed all =
    recursion_from_All P (keys_of pairs)
    (All-weaker (λ (token : Token). is_member token_eq (keys_of pairs) token ≡ true) P
    (λ token is. member-holds P token entries
    (recursion_from_All (λ (entry : Entry). P entry.token) entries all)
    (sym (summed.keys token) ∙ is))
    (keys_of pairs) (All-is_member token_eq-laws (keys_of pairs)))

-- a token has no entries among those of other tokens
own-none : (token : Token) (entries : List Entry)
    → AllByRecursion (λ entry. is_of token entry ≡ false) entries → own token entries ≡ []
unfolding own
own-none token [] none = refl
own-none token (entry ∷ entries) none =
    ap (λ (b : Bool). cond b (entry ∷ own token entries) (own token entries)) none.0
    ∙ own-none token entries none.1

-- Two lists of entries whose tokens lie below a number and from it on: f says where a token lies.
module _ (f : Token → ℕ) (n : ℕ) where
  apart : (a b : Token) → f a < n → n ≤ f b → token_eq a b ≡ false
  apart a b low high =
      ⊎_elim
      (λ (same : token_eq a b ≡ true). let is : f a ≡ f b = ap f (same_token a b same) in
      absurd (omega arith))
      (λ (other : token_eq a b ≡ false). other)
      (cases_Bool (token_eq a b))

  distinct-append : (xs ys : List Token) → AllByRecursion (λ x. f x < n) xs → All (λ y. n ≤ f y) ys
      → IsDistinct token_eq xs → IsDistinct token_eq ys → IsDistinct token_eq (xs ++ ys)
  unfolding IsDistinct
  distinct-append [] ys low high left right = right
  distinct-append (x ∷ xs) ys low high left right = (
    recursion_from_All (λ (y : Token). token_eq x y ≡ false) (xs ++ ys)
        (All-append (λ (y : Token). token_eq x y ≡ false) xs ys
        (All-from_recursion (λ (y : Token). token_eq x y ≡ false) xs left.0)
        (All-weaker (λ (y : Token). n ≤ f y) (λ (y : Token). token_eq x y ≡ false)
        (λ y from. apart x y low.0 from) ys high)),
    distinct-append xs ys low.1 high left.1 right,
  )

  own-low : (token : Token) (es fs : List Entry) → f token < n → All (λ entry. n ≤ f entry.token) fs
      → own token (es ++ fs) ≡ own token es
  unfolding own
  own-low token es fs low high =
      let none : own token fs ≡ [] =
      own-none token fs (recursion_from_All (λ (entry : Entry). is_of token entry ≡ false) fs
      (All-weaker (λ (entry : Entry). n ≤ f entry.token)
      (λ (entry : Entry). is_of token entry ≡ false)
      (λ entry from. token_eq-sym entry.token token ∙ apart token entry.token low from) fs high)) in
      filter-append (is_of token) es fs ∙ ap (λ (rest : List Entry). own token es ++ rest) none
      ∙ append-nil (own token es)

  own-high : (token : Token) (es fs : List Entry) → n ≤ f token
      → All (λ entry. f entry.token < n) es → own token (es ++ fs) ≡ own token fs
  unfolding own
  own-high token es fs high low =
      let none : own token es ≡ [] =
      own-none token es (recursion_from_All (λ (entry : Entry). is_of token entry ≡ false) es
      (All-weaker (λ (entry : Entry). f entry.token < n)
      (λ (entry : Entry). is_of token entry ≡ false)
      (λ entry below. apart entry.token token below high) es low)) in
      filter-append (is_of token) es fs ∙ ap (λ (front : List Entry). front ++ own token fs) none

  -- what is summed of the one and of the other is summed of both
  pub summed-append : (es fs : List Entry) (ps qs : List (Token × Sums)) → AreSummed es ps
      → AreSummed fs qs → All (λ entry. f entry.token < n) es → All (λ entry. n ≤ f entry.token) fs
      → AreSummed (es ++ fs) (ps ++ qs)
  summed-append es fs ps qs left right low high =
      let below : AllByRecursion (λ token. f token < n) (keys_of ps) =
      summed-hold (λ (token : Token). f token < n) es ps left low in
      let from : AllByRecursion (λ token. n ≤ f token) (keys_of qs) =
      summed-hold (λ (token : Token). n ≤ f token) fs qs right high in
      let below_pairs : All (λ (pair : Token × Sums). f pair.0 < n) ps =
      All-from_recursion (λ (pair : Token × Sums). f pair.0 < n) ps
      (keys-hold (λ (token : Token). f token < n) ps below) in
      let from_pairs : All (λ (pair : Token × Sums). n ≤ f pair.0) qs =
      All-from_recursion (λ (pair : Token × Sums). n ≤ f pair.0) qs
      (keys-hold (λ (token : Token). n ≤ f token) qs from) in
      record {
        each = All-append (λ (pair : Token × Sums). pair.1 ≡ sums (own pair.0 (es ++ fs))) ps qs
            (λ k d within. left.each k d within
            ∙ ap sums (sym (own-low (get_or ps k d).0 es fs (below_pairs k d within) high)))
            (λ k d within. right.each k d within
            ∙ ap sums (sym (own-high (get_or qs k d).0 es fs (from_pairs k d within) low)));
        once = subst (λ (ts : List Token). IsDistinct token_eq ts)
            (sym (map-append (λ (pair : Token × Sums). pair.0) ps qs))
            (distinct-append (keys_of ps) (keys_of qs) below
            (All-from_recursion (λ (token : Token). n ≤ f token) (keys_of qs) from) left.once
            right.once);
        keys = λ token.
            ap (λ (ts : List Token). is_member token_eq ts token)
            (map-append (λ (pair : Token × Sums). pair.0) ps qs)
            ∙ list_any-append (token_eq token) (keys_of ps) (keys_of qs)
            ∙ ap (λ (b : Bool). b || is_member token_eq (keys_of qs) token) (left.keys token)
            ∙ ap (λ (b : Bool). is_member token_eq (map token_of es) token || b) (right.keys token)
            ∙ sym (ap (λ (ts : List Token). is_member token_eq ts token) (map-append token_of es fs)
            ∙ list_any-append (token_eq token) (map token_of es) (map token_of fs));
      }

-- the order of tokens ties those that are equal
token_eq-cmp : (a b : Token) → token_eq a b ≡ eq_by_cmp token_cmp a b
token_eq-cmp a b = grind (arith, nat_tests)

-- pairs that have the sums of their tokens are made of these tokens
map-each : (entries : List Entry) (pairs : List (Token × Sums))
    → AllByRecursion (λ pair. pair.1 ≡ sums (own pair.0 entries)) pairs
    → pairs ≡ map (λ token. (token, sums (own token entries))) (keys_of pairs)
map-each entries [] each = refl
map-each entries (pair ∷ pairs) each =
    ap (λ (s : Sums). (pair.0, s) ∷ pairs) each.0
    ∙ ap (λ (ps : List (Token × Sums)). (pair.0, sums (own pair.0 entries)) ∷ ps)
    (map-each entries pairs each.1)

-- the sums of the entries, once sorted, are the sums by token
pub summed-sorted : (entries : List Entry) (pairs sorted : List (Token × Sums))
    → AreSummed entries pairs → IsPermutation pairs sorted → IsSorted token_cmp (keys_of sorted)
    → sorted ≡ sums_by_token entries
unfolding sums_by_token tokens
summed-sorted entries pairs sorted summed moved in_order =
    let alike : token_eq ≡ eq_by_cmp token_cmp = λ i a b. token_eq-cmp a b i in
    let keys_moved : IsPermutation (keys_of pairs) (keys_of sorted) =
    IsPermutation-map (λ (pair : Token × Sums). pair.0) pairs sorted moved in
    let once : IsDistinct token_eq (keys_of sorted) =
    IsDistinct-IsPermutation token_eq token_eq-sym (keys_of pairs) (keys_of sorted) keys_moved
    summed.once in
    let risen : keys_of sorted ≡ tokens entries =
    increasing-only token_cmp-total token_cmp-ties (map token_of entries) (keys_of sorted) (record {
      increases = sorted-increases token_cmp-total token_cmp-ties (keys_of sorted) in_order
          (subst (λ (e : Token → Token → Bool). IsDistinct e (keys_of sorted)) alike once);
      same = λ token. subst
          (λ (e : Token → Token → Bool). is_member e (keys_of sorted) token
          ≡ is_member e (map token_of entries) token) alike
          (sym (list_any-IsPermutation (token_eq token) (keys_of pairs) (keys_of sorted) keys_moved)
          ∙ summed.keys token);
    }) in
    let each : All (λ (pair : Token × Sums). pair.1 ≡ sums (own pair.0 entries)) sorted =
    All-permutation (λ (pair : Token × Sums). pair.1 ≡ sums (own pair.0 entries)) pairs sorted moved
    summed.each in
    map-each entries sorted
    (recursion_from_All (λ (pair : Token × Sums). pair.1 ≡ sums (own pair.0 entries)) sorted each)
    ∙ ap (λ (ts : List Token). map (λ token. (token, sums (own token entries))) ts) risen

-- counts that are sorted by their tokens
keys-counts : (list : List TokenCounts)
    → keys_of (map token_counts list) ≡ map (λ (counts : TokenCounts). counts.token) list
keys-counts [] = refl
keys-counts (counts ∷ list) = ap (λ (ts : List Token). counts.token ∷ ts) (keys-counts list)

keys-sorted : (list : List TokenCounts) → IsSortedByKey (λ counts. counts.token) token_cmp list
    → IsSorted token_cmp (map (λ (counts : TokenCounts). counts.token) list)
keys-sorted [] sorted = λ k d low within. absurd (omega arith)
keys-sorted (first ∷ list) sorted = λ k d low within.
    let token : TokenCounts → Token = λ counts. counts.token in
    let fits : k + 1 < length (first ∷ list) = omega (arith, length-map (first ∷ list) token) in
    ap (λ (t : Token). is_lt (token_cmp t (get_or (map token (first ∷ list)) k d)))
    (get_or-map token (first ∷ list) (k + 1) first d fits)
    ∙ ap (λ (t : Token). is_lt (token_cmp (get_or (first ∷ list) (k + 1) first).token t))
    (get_or-map token (first ∷ list) k first d (omega arith))
    ∙ sorted k first low fits

pub counts-sorted : (list : List TokenCounts)
    → IsSortedByKey (λ counts. counts.token) token_cmp list
    → IsSorted token_cmp (keys_of (map token_counts list))
counts-sorted list sorted =
    subst (λ (ts : List Token). IsSorted token_cmp ts) (sym (keys-counts list))
    (keys-sorted list sorted)

-- nothing is summed of no entries
pub summed-none : AreSummed [] []
unfolding own IsDistinct
summed-none = record {
  each = All-nil (λ (pair : Token × Sums). pair.1 ≡ sums (own pair.0 []));
  once = tt;
  keys =
      λ token. refl;
}

-- nor of no books
pub summed-no_books : (books : List Book) (list : List TokenCounts) → list ≡ []
    → None ≡ slice_get books 0 → AreSummed (all_entries books) (map token_counts list)
summed-no_books [] list none first =
    subst (λ (counts : List TokenCounts). AreSummed [] (map token_counts counts)) (sym none)
    summed-none
summed-no_books (book ∷ books) list none first = absurd (cc)

-- one book more, whose shard is not below the number
pub summed-more : (books : List Book) (i : ℕ) (blank book : Book) (shards lowest : ℕ)
    (before after : List (Token × Sums))
    → i < length books → book ≡ get_or books i blank → book.shards ≡ shards → lowest ≤ book.shard
    → AreOfShard book.shard book.shards book.entries
    → AddsSums book.entries before after
    → AreSummed (all_entries (take i books)) before
    → AreBelow shards lowest (all_entries (take i books))
    → AreSummed (all_entries (take (i + 1) books)) after
    × AreBelow shards (book.shard + 1) (all_entries (take (i + 1) books))
summed-more books i blank book shards lowest before after within is same_shards from here adds
    summed below =
    let f : Token → ℕ = λ token. shard_of_token (bytes_of token) shards in
    let more : all_entries (take (i + 1) books) ≡ all_entries (take i books) ++ book.entries =
    all-more books i blank within
    ∙ ap (λ (b : Book). all_entries (take i books) ++ b.entries) (sym is) in
    let its : All (λ (entry : Entry). f entry.token ≡ book.shard) book.entries =
    subst (λ (m : ℕ). All (λ (entry : Entry). shard_of_token (bytes_of entry.token) m ≡ book.shard)
    book.entries) same_shards here.each in
    let high : All (λ (entry : Entry). lowest ≤ f entry.token) book.entries =
    All-weaker (λ (entry : Entry). f entry.token ≡ book.shard)
    (λ (entry : Entry). lowest ≤ f entry.token)
    (λ entry same. subst (λ (m : ℕ). lowest ≤ m) (sym same) from) book.entries its in
    let low : All (λ (entry : Entry). f entry.token < book.shard + 1) book.entries =
    All-weaker (λ (entry : Entry). f entry.token ≡ book.shard)
    (λ (entry : Entry). f entry.token < book.shard + 1)
    (λ entry same. subst (λ (m : ℕ). m < book.shard + 1) (sym same) (omega arith)) book.entries
    its in
    let lower : All (λ (entry : Entry). f entry.token < book.shard + 1)
    (all_entries (take i books)) =
    All-weaker (λ (entry : Entry). f entry.token < lowest)
    (λ (entry : Entry). f entry.token < book.shard + 1)
    (λ entry under. let u : f entry.token < lowest = under in omega arith)
    (all_entries (take i books)) below.each in (
      subst (λ (es : List Entry). AreSummed es after) (sym more)
          (subst (λ (ps : List (Token × Sums)). AreSummed
          (all_entries (take i books) ++ book.entries)
          ps) (sym adds.appended)
          (summed-append f lowest (all_entries (take i books)) book.entries before adds.added summed
          adds.summed below.each high)),
      subst (λ (es : List Entry). AreBelow shards (book.shard + 1) es) (sym more)
          (record {
            each = All-append (λ (entry : Entry). f entry.token < book.shard + 1)
                (all_entries (take i books)) book.entries lower low;
          }),
    )
