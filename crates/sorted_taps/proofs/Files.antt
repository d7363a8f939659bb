-- Files whose bytes are known.
use Rattle.std.proofs.Common.{◌≡◌, ℕ, ◌<◌, ◌≤◌, ◌⊎◌, List, [], ◌∷◌, ◌++◌, length, map, get_or, sym}
use Rattle.std.proofs.Common.{ap, subst, ◌∙◌, arith, inl, inr, None, Some, IfSome, length-append}
use Rattle.std.proofs.Math.{ListN.get_or-append, Seq.get_or-append_seam}
use Rattle.std.proofs.lemmas.{Bool.cases_lt, List.get_or-map, List.length-map}
use Rattle.std.specs.Prelude.{Option}

-- as many files as are known
pub known_number : {X : Type 0} (known : X → Option (List ℕ)) (files : List X)
    (all : List (List ℕ)) → map known files ≡ map Some all → length files ≡ length all
known_number known files all are =
    sym (length-map files known) ∙ ap length are ∙ length-map all Some

-- the bytes of one of the files
pub known_at : {X : Type 0} (known : X → Option (List ℕ)) (files : List X) (all : List (List ℕ))
    (k : ℕ) (file : X) → map known files ≡ map Some all → k < length files
    → file ≡ get_or files k file → known file ≡ Some (get_or all k [])
known_at known files all k file are within is =
    let number = known_number known files all are in
    ap known is ∙ sym (get_or-map known files k file None within)
    ∙ ap (λ l. get_or l k None) are ∙ get_or-map Some all k [] None (omega (arith, number, within))

-- what holds of known bytes
pub if_known : {A : Type 0} (P : A → Type 0) (known : Option A) (a : A) → known ≡ Some a
    → IfSome known P → P a
if_known P known a is holds = subst (λ o. IfSome o P) is holds

-- what holds at each index holds at one more
pub each_more : {X : Type 0} (P : ℕ → X → Type 0) (xs : List X) (x : X)
    → ((k : ℕ) (d : X) → k < length xs → P k (get_or xs k d)) → P (length xs) x
    → (k : ℕ) (d : X) → k < length (xs ++ x ∷ []) → P k (get_or (xs ++ x ∷ []) k d)
each_more P xs x before now k d within = by_case (cases_lt k (length xs))
  where
    by_case : (k < length xs) ⊎ (length xs ≤ k) → P k (get_or (xs ++ x ∷ []) k d)
    by_case (inl less) =
        subst (P k) (sym (get_or-append xs (x ∷ []) d k less)) (before k d less)
    by_case (inr last) =
        let long = length-append xs (x ∷ []) in
        let same : length xs ≡ k = omega (arith, long, last, within) in
        subst (λ n. P n (get_or (xs ++ x ∷ []) n d)) same
        (subst (P (length xs)) (sym (get_or-append_seam xs x [] d)) now)

-- what holds of each of the files so far holds with one more
pub known_more : {X A : Type 0} (known : X → Option (List ℕ)) (files : List X)
    (P : ℕ → List ℕ → A → Type 0) (xs : List A) (x : A) (index : ℕ) (file : X)
    → length xs ≡ index → index < length files → file ≡ get_or files index file
    → IfSome (known file) (λ a. P index a x)
    → ((all : List (List ℕ)) → map known files ≡ map Some all
    → (k : ℕ) (d : A) → k < length xs → P k (get_or all k []) (get_or xs k d))
    → (ys : List A) → ys ≡ xs ++ x ∷ [] → (all : List (List ℕ)) → map known files ≡ map Some all
    → (k : ℕ) (d : A) → k < length ys → P k (get_or all k []) (get_or ys k d)
known_more {A = A} known files P xs x index file number within is here before ys items all are =
    subst (λ l. (k : ℕ) (d : A) → k < length l → P k (get_or all k []) (get_or l k d)) (sym items)
    (each_more (λ k y. P k (get_or all k []) y) xs x (before all are)
    (subst (λ n. P n (get_or all n []) x) (sym number)
    (if_known (λ a. P index a x) (known file) (get_or all index [])
    (known_at known files all index file are within is) here)))
