-- A strictly increasing list is known by its members, so `increasing` is the one such list with
-- the members of the keys.
use Rattle.std.proofs.Common.{◌≡◌, ◌+◌, Bool, false, ◌||◌, List, [], ◌∷◌, get_or, Ordering, refl}
use Rattle.std.proofs.Common.{sym, ap, subst, ◌∙◌, arith}
use Rattle.histories.specs.Increasing.{increasing, IsIncreasing}
use Rattle.std.proofs.{Math.Bool.or_self_left, lemmas.Bool.false≢true, lemmas.Cmp.tied_itself}
use Rattle.std.proofs.lemmas.Map.Keys.{sorted_from_all_adjacent, apart_from_distinct}
use Rattle.std.specs.{BTreeSet.insert_key, Cmp.IsTotalOrder}
use Rattle.std.specs.List.{AllByRecursion, IsDistinct, Sorted.IsStrictlySortedBy, Sorted.IsSorted}
use Rattle.std.specs.Ordering.{eq_by_cmp, is_eq, is_lt, match_ordering, ordering_reverse}
use Rattle.std.specs.Set.{is_member}
use Rattle.std.specs.declared.cmp.Ordering.TheVariants.{Less, Equal, Greater}
use Rattle.tap_views.proofs.Choices.{or_swap}

module _ {K : Type 0} {cmp : K → K → Ordering} (total : IsTotalOrder cmp)
    (ties : (a b : K) → cmp a b ≡ Equal → a ≡ b) where
  -- a key below all of a list is none of them
  not_above : (key : K) (keys : List K) → AllByRecursion (λ k. cmp key k ≡ Less) keys
      → is_member (eq_by_cmp cmp) keys key ≡ false
  not_above key [] below = refl
  not_above key (k ∷ keys) below = rw below.0 (not_above key keys below.1)

  -- below the first of a rising list, below all of it
  pub below_all : (key k : K) (keys : List K) → cmp key k ≡ Less
      → AllByRecursion (λ z. cmp k z ≡ Less) keys → AllByRecursion (λ z. cmp key z ≡ Less) keys
  below_all key k [] less above = tt
  below_all key k (z ∷ keys) less above =
      (total.trans key k z less above.0, below_all key k keys less above.1)

  -- lists above one key, which with that key have the same members, have the same members
  tails_same : (x : K) (xs ys : List K) → AllByRecursion (λ z. cmp x z ≡ Less) xs
      → AllByRecursion (λ z. cmp x z ≡ Less) ys → (q : K)
      → is_member (eq_by_cmp cmp) (x ∷ xs) q ≡ is_member (eq_by_cmp cmp) (x ∷ ys) q
      → is_member (eq_by_cmp cmp) xs q ≡ is_member (eq_by_cmp cmp) ys q
  tails_same x xs ys above_x above_y q same =
      elim (cmp q x) as (λ o. cmp q x ≡ o
      → (is_eq o || is_member (eq_by_cmp cmp) xs q) ≡ (is_eq o || is_member (eq_by_cmp cmp) ys q)
      → is_member (eq_by_cmp cmp) xs q ≡ is_member (eq_by_cmp cmp) ys q) [
        | Less ↦ λ _ tails. tails
        | Equal ↦ λ tied _.
            let is : q ≡ x = ties q x tied in
            subst (λ (z : K). is_member (eq_by_cmp cmp) xs z ≡ is_member (eq_by_cmp cmp) ys z)
            (sym is) (not_above x xs above_x ∙ sym (not_above x ys above_y))
        | Greater ↦ λ _ tails. tails
      ] refl same

  -- rising lists with the same members are the same list
  pub increasing-unique : (xs ys : List K) → IsStrictlySortedBy cmp xs → IsStrictlySortedBy cmp ys
      → ((q : K) → is_member (eq_by_cmp cmp) xs q ≡ is_member (eq_by_cmp cmp) ys q) → xs ≡ ys
  unfolding IsStrictlySortedBy
  increasing-unique [] [] increases_x increases_y same = refl
  increasing-unique [] (y ∷ ys) increases_x increases_y same =
      let here : (false ≡ (is_eq (cmp y y) || is_member (eq_by_cmp cmp) ys y)) = same y in
      absurd (false≢true
      (here ∙ ap (λ (o : Ordering). is_eq o || is_member (eq_by_cmp cmp) ys y)
      (tied_itself total y)))
  increasing-unique (x ∷ xs) [] increases_x increases_y same =
      let here : ((is_eq (cmp x x) || is_member (eq_by_cmp cmp) xs x) ≡ false) = same x in
      absurd (false≢true
      (sym here ∙ ap (λ (o : Ordering). is_eq o || is_member (eq_by_cmp cmp) xs x)
      (tied_itself total x)))
  increasing-unique (x ∷ xs) (y ∷ ys) increases_x increases_y same =
      elim (cmp x y) as (λ o. cmp x y ≡ o → (x ∷ xs) ≡ (y ∷ ys)) [
        | Less ↦ λ less. absurd (false≢true (
            sym (ap (λ (o : Ordering). is_eq o || is_member (eq_by_cmp cmp) ys x) less
            ∙ not_above x ys (below_all x y ys less increases_y.0))
            ∙ sym (same x) ∙ ap (λ (o : Ordering). is_eq o || is_member (eq_by_cmp cmp) xs x)
            (tied_itself total x)))
        | Equal ↦ λ tied.
            let is : y ≡ x = sym (ties x y tied) in
            let increases : AllByRecursion (λ z. cmp x z ≡ Less) ys =
            subst (λ (k : K). AllByRecursion (λ z. cmp k z ≡ Less) ys) is increases_y.0 in
            let members : (q : K)
            → is_member (eq_by_cmp cmp) (x ∷ xs) q ≡ is_member (eq_by_cmp cmp) (x ∷ ys) q =
            λ q. subst
            (λ (k : K). is_member (eq_by_cmp cmp) (x ∷ xs) q ≡ is_member (eq_by_cmp cmp) (k ∷ ys) q)
            is (same q) in
            ap (λ (zs : List K). x ∷ zs)
            (increasing-unique xs ys increases_x.1 increases_y.1
            (λ q. tails_same x xs ys increases_x.0 increases q (members q)))
            ∙ ap (λ (k : K). k ∷ ys) (sym is)
        | Greater ↦ λ greater.
            let less : cmp y x ≡ Less = total.antisymm y x ∙ ap ordering_reverse greater in
            absurd (false≢true (
            sym (ap (λ (o : Ordering). is_eq o || is_member (eq_by_cmp cmp) xs y) less
            ∙ not_above y xs (below_all y x xs less increases_x.0))
            ∙ same y ∙ ap (λ (o : Ordering). is_eq o || is_member (eq_by_cmp cmp) ys y)
            (tied_itself total y)))
      ] refl

  -- a key is a member of a rising list with one key more if it ties with that one or was a member
  insert-member : (keys : List K) (key q : K)
      → is_member (eq_by_cmp cmp) (insert_key cmp keys key) q
      ≡ (eq_by_cmp cmp q key || is_member (eq_by_cmp cmp) keys q)
  insert-member [] key q = refl
  insert-member (k ∷ keys) key q =
      elim (cmp key k) as (λ o. cmp key k ≡ o
      → is_member (eq_by_cmp cmp)
      (match_ordering o (key ∷ k ∷ keys) (k ∷ keys) (k ∷ insert_key cmp keys key)) q
      ≡ (eq_by_cmp cmp q key || (eq_by_cmp cmp q k || is_member (eq_by_cmp cmp) keys q))) [
        | Less ↦ λ _. refl
        | Equal ↦ λ tied. sym (or_self_left (eq_by_cmp cmp q k) _)
            ∙ ap (λ (z : K). eq_by_cmp cmp q
            z || (eq_by_cmp cmp q k || is_member (eq_by_cmp cmp) keys q)) (sym (ties key k tied))
        | Greater ↦ λ _. ap (λ (b : Bool). eq_by_cmp cmp q k || b) (insert-member keys key q)
            ∙ or_swap (eq_by_cmp cmp q k) (eq_by_cmp cmp q key) _
      ] refl

  insert-above : (low : K) (keys : List K) (key : K) → AllByRecursion (λ z. cmp low z ≡ Less) keys
      → cmp low key ≡ Less → AllByRecursion (λ z. cmp low z ≡ Less) (insert_key cmp keys key)
  insert-above low [] key above less = (less, tt)
  insert-above low (k ∷ keys) key above less =
      elim (cmp key k) as (λ o. AllByRecursion (λ z. cmp low z ≡ Less)
      (match_ordering o (key ∷ k ∷ keys) (k ∷ keys) (k ∷ insert_key cmp keys key))) [
        | Less ↦ (less, above)
        | Equal ↦ above
        | Greater ↦ (above.0, insert-above low keys key above.1 less)
      ]

  insert-increases : (keys : List K) (key : K) → IsStrictlySortedBy cmp keys
      → IsStrictlySortedBy cmp (insert_key cmp keys key)
  unfolding IsStrictlySortedBy
  insert-increases [] key increases = (tt, tt)
  insert-increases (k ∷ keys) key increases =
      elim (cmp key k) as (λ o. cmp key k ≡ o
      → IsStrictlySortedBy cmp
      (match_ordering o (key ∷ k ∷ keys) (k ∷ keys) (k ∷ insert_key cmp keys key))) [
        | Less ↦ λ less. ((less, below_all key k keys less increases.0), increases)
        | Equal ↦ λ _. increases
        | Greater ↦ λ greater. (
          insert-above k keys key increases.0 (total.antisymm k key ∙ ap ordering_reverse greater),
          insert-increases keys key increases.1,
        )
      ] refl

  -- `increasing` gives such a list
  pub increasing-is : (keys : List K) → IsIncreasing cmp keys (increasing cmp keys)
  unfolding increasing IsStrictlySortedBy
  increasing-is [] = record { increases = tt; same = λ key. refl }
  increasing-is (k ∷ keys) =
      let rest = increasing-is keys in
      record {
        increases = insert-increases (increasing cmp keys) k rest.increases;
        same = λ key. insert-member (increasing cmp keys) k key
            ∙ ap (λ (b : Bool). eq_by_cmp cmp key k || b) (rest.same key);
      }

  -- and there is no other
  pub increasing-only : (keys risen : List K) → IsIncreasing cmp keys risen
      → risen ≡ increasing cmp keys
  increasing-only keys risen is = let own = increasing-is keys in
      increasing-unique risen (increasing cmp keys) is.increases own.increases
      (λ q. is.same q ∙ sym (own.same q))

  -- what a sort leaves of distinct keys rises strictly
  sorted-increases-at : (keys : List K) (blank : K) → IsSorted cmp keys
      → IsDistinct (eq_by_cmp cmp) keys → IsStrictlySortedBy cmp keys
  sorted-increases-at keys blank sorted distinct =
      sorted_from_all_adjacent total keys blank (λ k within.
      let a = get_or keys k blank in
      let b = get_or keys (k + 1) blank in
      elim (cmp a b) as (λ o. cmp a b ≡ o → cmp a b ≡ Less) [
        | Less ↦ λ less. less
        | Equal ↦ λ tied. absurd
            (false≢true
            (sym (apart_from_distinct (eq_by_cmp cmp) keys k (k + 1) blank distinct (omega arith)
            within) ∙ ap is_eq tied))
        | Greater ↦ λ greater. absurd
            (false≢true
            (sym (sorted k blank (omega arith) within)
            ∙ ap is_lt (total.antisymm b a ∙ ap ordering_reverse greater)))
      ] refl)

  pub sorted-increases : (keys : List K) → IsSorted cmp keys → IsDistinct (eq_by_cmp cmp) keys
      → IsStrictlySortedBy cmp keys
  unfolding IsStrictlySortedBy
  sorted-increases [] sorted distinct = tt
  sorted-increases (key ∷ keys) sorted distinct =
      sorted-increases-at (key ∷ keys) key sorted distinct
