-- Lists with the same elements under each key, in the same order, have the same elements.
use Rattle.std.specs.Prelude.{◌≡◌, Bool, true, false, cond, List, [], ◌∷◌, ◌++◌, filter}
use Rattle.std.specs.Prelude.{IsPermutation}
use Rattle.std.proofs.Common.{refl, sym, ◌∙◌, ap, subst}
use Rattle.std.proofs.lemmas.List.Elements.{filter-append}
use Rattle.std.proofs.lemmas.List.Sorted.{IsPermutation-refl, IsPermutation-sym, IsPermutation-cons}
use Rattle.std.proofs.lemmas.List.Sorted.{IsPermutation-trans, IsPermutation-middle}

-- where the elements that pass begin, so does what they come from
record Parts {A : Type 0} (p : A → Bool) (ys : List A) (x : A) (rest : List A) : Type 0 where
  pub front : List A
  pub back : List A
  pub whole : ys ≡ front ++ x ∷ back
  pub none : filter p front ≡ []
  pub left : filter p back ≡ rest

split_first : {A : Type 0} (p : A → Bool) (ys : List A) (x : A) (rest : List A)
    → filter p ys ≡ x ∷ rest → Parts p ys x rest
split_first p [] x rest e = absurd (cc)
split_first p (y ∷ ys) x rest e = by_test (p y) refl (split_first p ys x rest)
  where
    by_test : (b : Bool) → p y ≡ b → (filter p ys ≡ x ∷ rest → Parts p ys x rest)
        → Parts p (y ∷ ys) x rest
    by_test true is further =
        let h : y ∷ filter p ys ≡ x ∷ rest =
        ap (λ b. cond b (y ∷ filter p ys) (filter p ys)) (sym is) ∙ e in
        let same : y ≡ x = cc in
        let left : filter p ys ≡ rest = cc in
        record { front = []; back = ys; whole = ap (λ z. z ∷ ys) same; none = refl; left = left }
    by_test false is further =
        let more = further (ap (λ b. cond b (y ∷ filter p ys) (filter p ys)) (sym is) ∙ e) in
        record {
          front = y ∷ more.front;
          back = more.back;
          whole = ap (λ zs. y ∷ zs) more.whole;
          none = ap (λ b. cond b (y ∷ filter p more.front) (filter p more.front)) is ∙ more.none;
          left = more.left;
        }

module _ {A K : Type 0} (key : A → K) (same : K → K → Bool) (itself : (k : K) → same k k ≡ true)
    (tells : (a b : K) → same a b ≡ true → a ≡ b) where
  abbrev pub under : K → List A → List A
  under k xs = filter (λ x. same (key x) k) xs

  -- lists with the same elements under each key, in the same order, have the same elements
  pub same_elements : (xs ys : List A) → ((k : K) → under k xs ≡ under k ys) → IsPermutation xs ys
  same_elements [] [] all = IsPermutation-refl []
  same_elements [] (y ∷ ys) all =
      absurd (let h : [] ≡ y ∷ under (key y) ys =
      all (key y) ∙ ap (λ b. cond b (y ∷ under (key y) ys) (under (key y) ys))
      (itself (key y)) in cc)
  same_elements (x ∷ xs) ys all =
      let begins : x ∷ under (key x) xs ≡ under (key x) ys =
      ap (λ b. cond b (x ∷ under (key x) xs) (under (key x) xs)) (sym (itself (key x)))
      ∙ all (key x) in
      let parts = split_first (λ y. same (key y) (key x)) ys x (under (key x) xs) (sym begins) in
      let others : (k : K) → under k xs ≡ under k (parts.front ++ parts.back) =
      λ k. by_test parts k (same (key x) k) refl in
      let P : List A → Type 0 = λ zs. IsPermutation (x ∷ xs) zs in
      subst P (sym parts.whole)
      (IsPermutation-trans (x ∷ xs) (x ∷ (parts.front ++ parts.back))
      (parts.front ++ x ∷ parts.back)
      (IsPermutation-cons x xs (parts.front ++ parts.back)
      (same_elements xs (parts.front ++ parts.back) others))
      (IsPermutation-sym (parts.front ++ x ∷ parts.back) (x ∷ (parts.front ++ parts.back))
      (IsPermutation-middle parts.front x parts.back)))
    where
      by_test : (parts : Parts (λ y. same (key y) (key x)) ys x (under (key x) xs)) (k : K)
          (b : Bool) → same (key x) k ≡ b → under k xs ≡ under k (parts.front ++ parts.back)
      by_test parts k true is =
          let e : key x ≡ k = tells (key x) k is in
          let none : under k parts.front ≡ [] =
          ap (λ q. under q parts.front) (sym e) ∙ parts.none in
          ap (λ q. under q xs) (sym e) ∙ sym parts.left ∙ ap (λ q. under q parts.back) e
          ∙ sym (filter-append (λ y. same (key y) k) parts.front parts.back
          ∙ ap (λ zs. zs ++ under k parts.back) none)
      by_test parts k false is =
          let whole : under k (parts.front ++ x ∷ parts.back)
          ≡ under k parts.front ++ under k parts.back =
          filter-append (λ y. same (key y) k) parts.front (x ∷ parts.back)
          ∙ ap (λ b. under k parts.front ++ cond b (x ∷ under k parts.back) (under k parts.back))
          is in
          ap (λ b. cond b (x ∷ under k xs) (under k xs)) (sym is) ∙ all k ∙ ap (under k) parts.whole
          ∙ whole
          ∙ sym (filter-append (λ y. same (key y) k) parts.front parts.back)
