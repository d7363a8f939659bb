-- Lists of lists, and lists of which one alone has elements that pass a test.
use Rattle.std.proofs.Common.{refl, sym, ◌∙◌, ap, inl, inr, arith, get_or, append-nil}
use Rattle.std.proofs.lemmas.List.{get_or_past}
use Rattle.std.proofs.lemmas.List.Elements.{All-nil, All-cons, All-head, All-tail, All-append}
use Rattle.std.proofs.lemmas.List.Elements.{All-contains_itself, All-filter, filter-append}
use Rattle.std.proofs.lemmas.List.{Elements.filter_passes, Sums.sum_by-cons}
use Rattle.std.specs.List.{flat_map}
use Rattle.std.specs.Prelude.{ℕ, zero, suc, ◌≡◌, ◌≢◌, ◌⊎◌, ◌+◌, ◌==◌, Bool, true, false, cond, List}
use Rattle.std.specs.Prelude.{[], ◌∷◌, ◌++◌, length, filter, All, Contains, count_by}
use Rattle.tap_views.proofs.Lists.{All-split}

pub All-flat : {X : Type 0} (P : X → Type 0) (lists : List (List X)) → All (λ xs. All P xs) lists
    → All P (flat_map (λ xs. xs) lists)
All-flat P [] all = All-nil P
All-flat P (xs ∷ lists) all =
    All-append P xs (flat_map (λ ys. ys) lists) (All-head (λ ys. All P ys) xs lists all)
    (All-flat P lists (All-tail (λ ys. All P ys) xs lists all))

pub flat-All : {X : Type 0} (P : X → Type 0) (lists : List (List X))
    → All P (flat_map (λ xs. xs) lists) → All (λ xs. All P xs) lists
flat-All P [] all = All-nil (λ ys. All P ys)
flat-All P (xs ∷ lists) all =
    let (left, right) = All-split P xs (flat_map (λ ys. ys) lists) all in
    All-cons (λ ys. All P ys) xs lists left (flat-All P lists right)

-- how often a number stands in a list
abbrev pub count : ℕ → List ℕ → ℕ
count n ns = count_by (λ m. m == n) ns

pub count_same : (n m : ℕ) (ms : List ℕ) → (m == n) ≡ true → count n (m ∷ ms) ≡ 1 + count n ms
count_same n m ms is =
    sum_by-cons (λ x. cond (x == n) 1 0) m ms ∙ ap (λ b. cond b 1 0 + count n ms) is

pub count_other : (n m : ℕ) (ms : List ℕ) → (m == n) ≡ false → count n (m ∷ ms) ≡ count n ms
count_other n m ms is =
    omega (arith, sum_by-cons (λ x. cond (x == n) 1 0) m ms, ap {B = ℕ} (λ b. cond b 1 0) is)

-- of parts of which one alone has elements that pass, the elements that pass are those of that one
pub passes_alone : {X Y : Type 0} (p : Y → Bool) (part : X → List Y) (xs : List X) (d : X) (at : ℕ)
    → filter p (part d) ≡ []
    → ((i : ℕ) → i ≢ at → filter p (part (get_or xs i d)) ≡ [])
    → filter p (flat_map part xs) ≡ filter p (part (get_or xs at d))
passes_alone p part [] d at none others = sym none
passes_alone p part (x ∷ xs) d zero none others =
    let later = passes_alone p part xs d (length xs) none
    (λ i ne. others (suc i) (λ e. omega (arith, e))) in
    filter-append p (part x) (flat_map part xs)
    ∙ ap (λ ys. filter p (part x) ++ ys)
    (later ∙ ap (λ y. filter p (part y)) (get_or_past xs (length xs) d (omega arith)) ∙ none)
    ∙ append-nil (filter p (part x))
passes_alone p part (x ∷ xs) d (suc at) none others =
    filter-append p (part x) (flat_map part xs)
    ∙ ap (λ ys. ys ++ filter p (flat_map part xs)) (others 0 (λ e. omega (arith, e)))
    ∙ passes_alone p part xs d at none (λ i ne. others (suc i) (λ e. ne (omega (arith, e))))

-- an element of the list that passes
pub record Passes {X : Type 0} (p : X → Bool) (xs : List X) : Type 0 where
  pub one : X
  pub there : Contains xs one
  pub passed : p one ≡ true

-- no element passes, or one does
pub none_or_one : {X : Type 0} (p : X → Bool) (xs : List X) → (filter p xs ≡ []) ⊎ Passes p xs
none_or_one {X = X} p xs =
    by_list (filter p xs) (All-filter p (Contains xs) xs (All-contains_itself xs))
    (filter_passes p xs)
  where
    by_list : (ys : List X) → All (Contains xs) ys → All (λ y. p y ≡ true) ys
        → (ys ≡ []) ⊎ Passes p xs
    by_list [] there passed = inl refl
    by_list (y ∷ ys) there passed = inr (record {
      one = y;
      there = All-head (Contains xs) y ys there;
      passed = All-head (λ z. p z ≡ true) y ys passed;
    })

-- in one list at most elements pass, if any two that pass are in one list: that list's place
pub alone_at : {X : Type 0} (p : X → Bool) (lists : List (List X))
    → ((i j : ℕ) → Passes p (get_or lists i []) → Passes p (get_or lists j []) → i ≡ j)
    → (at : ℕ) × ((i : ℕ) → i ≢ at → filter p (get_or lists i []) ≡ [])
alone_at p [] same = (0, λ i ne. refl)
alone_at {X = X} p (xs ∷ lists) same =
    by_first (none_or_one p xs)
    (alone_at p lists (λ i j one other. omega (arith, same (suc i) (suc j) one other)))
  where
    by_first : (filter p xs ≡ []) ⊎ Passes p xs
        → (at : ℕ) × ((i : ℕ) → i ≢ at → filter p (get_or lists i []) ≡ [])
        → (at : ℕ) × ((i : ℕ) → i ≢ at → filter p (get_or (xs ∷ lists) i []) ≡ [])
    by_first (inl none) (at, others) = (suc at, later)
      where
        later : (i : ℕ) → i ≢ suc at → filter p (get_or (xs ∷ lists) i []) ≡ []
        later zero ne = none
        later (suc i) ne = others i (λ e. ne (ap suc e))
    by_first (inr first) rest = (0, λ i ne. elsewhere i ne (none_or_one p (get_or (xs ∷ lists) i [])))
      where
        elsewhere : (i : ℕ) → i ≢ 0
            → (filter p (get_or (xs ∷ lists) i []) ≡ []) ⊎ Passes p (get_or (xs ∷ lists) i [])
            → filter p (get_or (xs ∷ lists) i []) ≡ []
        elsewhere i ne (inl none) = none
        elsewhere i ne (inr other) = absurd (ne (same i 0 other first))
