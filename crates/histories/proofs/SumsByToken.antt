-- Sums by token of two lists of entries, if the tokens of the first are below those of the second,
-- and of entries of one token.
use Rattle.std.proofs.Common.{◌≡◌, false, ◌||◌, cond, List, ◌∷◌, ◌++◌, map, filter, [], refl, sym}
use Rattle.std.proofs.Common.{ap, ◌∙◌, append-nil, All, ◌<◌, length, arith}
use Rattle.histories.proofs.IncreasingLemmas.{increasing-is, increasing-only}
use Rattle.histories.proofs.OwnEntries.{own_all}
use Rattle.histories.specs.{Entry.is_of, Entry.own, Increasing.increasing, Sums.Sums, Sums.sums}
use Rattle.histories.specs.SumsByKey.{sums_by_token, token_of, tokens}
use Rattle.histories.specs.declared.entry.Entry.{Entry}
use Rattle.std.proofs.{Math.Bool.or_self_left, lemmas.List.map-append}
use Rattle.std.proofs.lemmas.List.Elements.{All-head, All-tail, All-nil, All-cons, filter-append}
use Rattle.std.proofs.lemmas.List.Elements.{All-weaker, recursion_from_All}
use Rattle.std.proofs.lemmas.Map.Views.{All-insert_key}
use Rattle.std.specs.{List.Sorted.IsStrictlySortedBy, Ordering.eq_by_cmp, Set.is_member}
use Rattle.std.specs.declared.cmp.Ordering.TheVariants.{Less}
use Rattle.tap_views.proofs.Lists.{each-append}
use Rattle.tap_views.proofs.TokenLemmas.{token_eq-sym, token_cmp-total, token_cmp-ties, among}
use Rattle.tap_views.proofs.TokenLemmas.{among-append, less_apart}
use Rattle.tap_views.specs.Token.{token_cmp, token_eq}
use Rattle.tap_views.specs.{TokenOrder.AreBelow, declared.token.Token.Token}

-- ---- two lists
sorted_append : (xs ys : List Token) → IsStrictlySortedBy token_cmp xs
    → IsStrictlySortedBy token_cmp ys → AreBelow xs ys → IsStrictlySortedBy token_cmp (xs ++ ys)
unfolding IsStrictlySortedBy
sorted_append [] ys front back below = back
sorted_append (x ∷ xs) ys front back below = (
  each-append (λ z. token_cmp x z ≡ Less) xs ys front.0
      (recursion_from_All (λ z. token_cmp x z ≡ Less) ys
      (All-head (λ t. All (λ o. token_cmp t o ≡ Less) ys) x xs below)),
  sorted_append xs ys front.1 back
      (All-tail (λ t. All (λ o. token_cmp t o ≡ Less) ys) x xs below),
)

-- what holds of all keys holds of them in their order
all_keys : (P : Token → Type 0) (keys : List Token) → All P keys → All P (increasing token_cmp keys)
unfolding increasing
all_keys P [] all = All-nil P
all_keys P (key ∷ keys) all =
    All-insert_key token_cmp key P (increasing token_cmp keys)
    (all_keys P keys (All-tail P key keys all)) (All-head P key keys all)

below_keys : (xs ys : List Token) → AreBelow xs ys
    → AreBelow (increasing token_cmp xs) (increasing token_cmp ys)
below_keys xs ys below =
    All-weaker (λ t. All (λ o. token_cmp t o ≡ Less) ys)
    (λ t. All (λ o. token_cmp t o ≡ Less) (increasing token_cmp ys))
    (λ t all. all_keys (λ o. token_cmp t o ≡ Less) ys all) (increasing token_cmp xs)
    (all_keys (λ t. All (λ o. token_cmp t o ≡ Less) ys) xs below)

keys_joined : (xs ys : List Token) → AreBelow xs ys
    → increasing token_cmp xs ++ increasing token_cmp ys ≡ increasing token_cmp (xs ++ ys)
keys_joined xs ys below =
    let front = increasing-is token_cmp-total token_cmp-ties xs in
    let back = increasing-is token_cmp-total token_cmp-ties ys in
    increasing-only token_cmp-total token_cmp-ties (xs ++ ys)
    (increasing token_cmp xs ++ increasing token_cmp ys) (record {
      increases = sorted_append (increasing token_cmp xs) (increasing token_cmp ys) front.increases
          back.increases
          (below_keys xs ys below);
      same = λ key.
          among-append (increasing token_cmp xs) (increasing token_cmp ys) key
          ∙ ap (λ b. b || among (increasing token_cmp ys) key) (front.same key)
          ∙ ap (λ b. among xs key || b) (back.same key)
          ∙ sym (among-append xs ys key);
    })

-- entries of other tokens have none of this one
pub none_of : (token : Token) (entries : List Entry)
    → All (λ t. token_eq t token ≡ false) (map token_of entries) → own token entries ≡ []
unfolding own
none_of token [] all = refl
none_of token (entry ∷ entries) all =
    let here = All-head (λ t. token_eq t token ≡ false) entry.token (map token_of entries) all in
    ap (λ b. cond b (entry ∷ filter (is_of token) entries) (filter (is_of token) entries)) here
    ∙ none_of token entries
    (All-tail (λ t. token_eq t token ≡ false) entry.token (map token_of entries) all)

abbrev paired : (Token → Sums) → List Token → List (Token × Sums)
paired f keys = map (λ t. (t, f t)) keys

pairs_same : (f g : Token → Sums) (keys : List Token) → All (λ t. f t ≡ g t) keys
    → paired f keys ≡ paired g keys
pairs_same f g [] all = refl
pairs_same f g (key ∷ keys) all =
    ap (λ (s : Sums). (key, s) ∷ paired f keys)
    (All-head (λ t. f t ≡ g t) key keys all)
    ∙ ap (λ (ps : List (Token × Sums)). (key, g key) ∷ ps)
    (pairs_same f g keys (All-tail (λ t. f t ≡ g t) key keys all))

paired_append : (f : Token → Sums) (xs ys : List Token)
    → paired f (xs ++ ys) ≡ paired f xs ++ paired f ys
paired_append f [] ys = refl
paired_append f (x ∷ xs) ys =
    ap (λ (ps : List (Token × Sums)). (x, f x) ∷ ps) (paired_append f xs ys)

flipped : (xs ys : List Token) → AreBelow xs ys
    → All (λ y. All (λ x. token_eq x y ≡ false) xs) ys
flipped [] ys below = (λ j d h. All-nil (λ x. token_eq x _ ≡ false))
flipped (x ∷ xs) ys below =
    both ys (All-head (λ t. All (λ o. token_cmp t o ≡ Less) ys) x xs below)
    (flipped xs ys (All-tail (λ t. All (λ o. token_cmp t o ≡ Less) ys) x xs below))
  where
    both : (zs : List Token) → All (λ z. token_cmp x z ≡ Less) zs
        → All (λ z. All (λ w. token_eq w z ≡ false) xs) zs
        → All (λ z. All (λ w. token_eq w z ≡ false) (x ∷ xs)) zs
    both [] less rest = All-nil (λ z. All (λ w. token_eq w z ≡ false) (x ∷ xs))
    both (z ∷ zs) less rest =
        All-cons (λ y. All (λ w. token_eq w y ≡ false) (x ∷ xs)) z zs
        (All-cons (λ w. token_eq w z ≡ false) x xs
        (token_eq-sym x z ∙ less_apart x z (All-head (λ y. token_cmp x y ≡ Less) z zs less))
        (All-head (λ y. All (λ w. token_eq w y ≡ false) xs) z zs rest))
        (both zs (All-tail (λ y. token_cmp x y ≡ Less) z zs less)
        (All-tail (λ y. All (λ w. token_eq w y ≡ false) xs) z zs rest))

-- of lists in order of token, the sums by token are joined
pub by_token_joined : (xs ys : List Entry) → AreBelow (map token_of xs) (map token_of ys)
    → sums_by_token (xs ++ ys) ≡ sums_by_token xs ++ sums_by_token ys
unfolding sums_by_token tokens own
by_token_joined xs ys below =
    let kx = map token_of xs in
    let ky = map token_of ys in
    let f : Token → Sums = λ t. sums (own t (xs ++ ys)) in
    let front : All (λ t. f t ≡ sums (own t xs)) (increasing token_cmp kx) =
    All-weaker (λ t. All (λ o. token_cmp t o ≡ Less) ky) (λ t. f t ≡ sums (own t xs))
    (λ t all. ap sums (filter-append (is_of t) xs ys
    ∙ ap (λ (es : List Entry). filter (is_of t) xs ++ es)
    (none_of t ys
    (All-weaker (λ o. token_cmp t o ≡ Less) (λ o. token_eq o t ≡ false)
    (λ o less. less_apart t o less) ky all))
    ∙ append-nil (filter (is_of t) xs))) (increasing token_cmp kx)
    (all_keys (λ t. All (λ o. token_cmp t o ≡ Less) ky) kx below) in
    let back : All (λ t. f t ≡ sums (own t ys)) (increasing token_cmp ky) =
    All-weaker (λ t. All (λ o. token_eq o t ≡ false) kx) (λ t. f t ≡ sums (own t ys))
    (λ t all. ap sums (filter-append (is_of t) xs ys
    ∙ ap (λ (es : List Entry). es ++ filter (is_of t) ys) (none_of t xs all)))
    (increasing token_cmp ky)
    (all_keys (λ t. All (λ o. token_eq o t ≡ false) kx) ky (flipped kx ky below)) in
    ap (λ (ks : List Token). paired f (increasing token_cmp ks)) (map-append token_of xs ys)
    ∙ ap (paired f) (sym (keys_joined kx ky below))
    ∙ paired_append f (increasing token_cmp kx) (increasing token_cmp ky)
    ∙ ap (λ (ps : List (Token × Sums)). ps ++ paired f (increasing token_cmp ky))
    (pairs_same f (λ t. sums (own t xs)) (increasing token_cmp kx) front)
    ∙ ap (λ (ps : List (Token × Sums)). paired (λ t. sums (own t xs))
    (increasing token_cmp kx) ++ ps)
    (pairs_same f (λ t. sums (own t ys)) (increasing token_cmp ky) back)

-- ---- entries of one token
among_one : (token key : Token) (entry : Entry) (entries : List Entry)
    → All (λ entry. entry.token ≡ token) (entry ∷ entries)
    → is_member (eq_by_cmp token_cmp) (map token_of (entry ∷ entries)) key
    ≡ is_member (eq_by_cmp token_cmp) (token ∷ []) key
among_one token key entry [] all =
    ap (λ (t : Token). is_member (eq_by_cmp token_cmp) (t ∷ []) key)
    (All-head (λ (e : Entry). e.token ≡ token) entry [] all)
among_one token key entry (next ∷ entries) all =
    let rest = among_one token key next entries
    (All-tail (λ (e : Entry). e.token ≡ token) entry (next ∷ entries) all) in
    ap (λ b. eq_by_cmp token_cmp key entry.token || b) rest
    ∙ ap (λ (t : Token). eq_by_cmp token_cmp key t
    || (eq_by_cmp token_cmp key token || false))
    (All-head (λ (e : Entry). e.token ≡ token) entry (next ∷ entries) all)
    ∙ or_self_left (eq_by_cmp token_cmp key token) false

one_increases : (token : Token) → IsStrictlySortedBy token_cmp (token ∷ [])
unfolding IsStrictlySortedBy
one_increases token = (tt, tt)

pub one_token : (token : Token) (entry : Entry) (entries : List Entry)
    → All (λ entry. entry.token ≡ token) (entry ∷ entries)
    → sums_by_token (entry ∷ entries) ≡ (token, sums (entry ∷ entries)) ∷ []
unfolding sums_by_token tokens
one_token token entry entries all =
    let keys : token ∷ [] ≡ increasing token_cmp (map token_of (entry ∷ entries)) =
    increasing-only token_cmp-total token_cmp-ties (map token_of (entry ∷ entries)) (token ∷ [])
    (record {
      increases = one_increases token;
      same = λ key. sym (among_one token key entry entries all);
    }) in
    let row : Token → Token × Sums = λ t. (t, sums (own t (entry ∷ entries))) in
    ap (map row) (sym keys)
    ∙ ap (λ (es : List Entry). (token, sums es) ∷ []) (own_all token (entry ∷ entries) all)

-- no entries have no sums
pub no_sums : (list : List (Token × Sums)) → list ≡ [] → list ≡ sums_by_token []
unfolding sums_by_token tokens increasing
no_sums list none = none

-- entries of one token have its sums alone
pub one_token_list : (token : Token) (entries : List Entry) → 0 < length entries
    → All (λ entry. entry.token ≡ token) entries
    → sums_by_token entries ≡ (token, sums entries) ∷ []
one_token_list token [] some all = absurd (omega (arith, some))
one_token_list token (entry ∷ entries) some all = one_token token entry entries all

below_each : (tokens : List Token) (token other : Token) → other ≡ token
    → AreBelow tokens (token ∷ []) → All (λ t. token_cmp t other ≡ Less) tokens
below_each [] token other same below = All-nil (λ t. token_cmp t other ≡ Less)
below_each (t ∷ tokens) token other same below =
    All-cons (λ s. token_cmp s other ≡ Less) t tokens
    (ap (token_cmp t) same ∙ All-head (λ o. token_cmp t o ≡ Less) token []
    (All-head (λ s. All (λ o. token_cmp s o ≡ Less) (token ∷ [])) t tokens below))
    (below_each tokens token other same
    (All-tail (λ s. All (λ o. token_cmp s o ≡ Less) (token ∷ [])) t tokens below))

flip_below : (tokens : List Token) (entries : List Entry)
    → All (λ entry. All (λ t. token_cmp t entry.token ≡ Less) tokens) entries
    → AreBelow tokens (map token_of entries)
flip_below [] entries all = All-nil (λ s. All (λ o. token_cmp s o ≡ Less) (map token_of entries))
flip_below (t ∷ tokens) entries all =
    All-cons (λ s. All (λ o. token_cmp s o ≡ Less) (map token_of entries)) t tokens
    (heads entries all) (flip_below tokens entries (tails entries all))
  where
    heads : (es : List Entry)
        → All (λ entry. All (λ t. token_cmp t entry.token ≡ Less) (t ∷ tokens)) es
        → All (λ o. token_cmp t o ≡ Less) (map token_of es)
    heads [] each = All-nil (λ o. token_cmp t o ≡ Less)
    heads (e ∷ es) each =
        All-cons (λ o. token_cmp t o ≡ Less) e.token (map token_of es)
        (All-head (λ s. token_cmp s e.token ≡ Less) t tokens
        (All-head (λ (x : Entry). All (λ s. token_cmp s x.token ≡ Less) (t ∷ tokens)) e es each))
        (heads es
        (All-tail (λ (x : Entry). All (λ s. token_cmp s x.token ≡ Less) (t ∷ tokens)) e es each))

    tails : (es : List Entry)
        → All (λ entry. All (λ t. token_cmp t entry.token ≡ Less) (t ∷ tokens)) es
        → All (λ entry. All (λ t. token_cmp t entry.token ≡ Less) tokens) es
    tails [] each = All-nil (λ (x : Entry). All (λ s. token_cmp s x.token ≡ Less) tokens)
    tails (e ∷ es) each =
        All-cons (λ (x : Entry). All (λ s. token_cmp s x.token ≡ Less) tokens) e es
        (All-tail (λ s. token_cmp s e.token ≡ Less) t tokens
        (All-head (λ (x : Entry). All (λ s. token_cmp s x.token ≡ Less) (t ∷ tokens)) e es each))
        (tails es
        (All-tail (λ (x : Entry). All (λ s. token_cmp s x.token ≡ Less) (t ∷ tokens)) e es each))

-- tokens below one are below those of entries that have it
pub below_same : (tokens : List Token) (token : Token) (entries : List Entry)
    → AreBelow tokens (token ∷ []) → All (λ entry. entry.token ≡ token) entries
    → AreBelow tokens (map token_of entries)
below_same tokens token entries below all =
    flip_below tokens entries
    (All-weaker (λ (e : Entry). e.token ≡ token)
    (λ (e : Entry). All (λ t. token_cmp t e.token ≡ Less) tokens)
    (λ e same. below_each tokens token e.token same below) entries all)
