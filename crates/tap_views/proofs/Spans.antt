-- Spans of more moments.
use Rattle.std.proofs.Common.{◌≡◌, ℕ, ◌≤◌, ◌⊎◌, inl, inr, List, [], ◌∷◌, ◌++◌, Some, refl, sym}
use Rattle.std.proofs.Common.{subst, arith}
use Rattle.std.proofs.lemmas.List.Elements.{Contains-append_left, Contains-append_right}
use Rattle.std.specs.{List.AllByRecursion, Prelude.Contains, Prelude.min, Prelude.max}
use Rattle.tap_views.specs.{Facts.IsSpan, Facts.IsWithin, declared.span.MomentSpan.MomentSpan}

last_one : (x : ℕ) → Contains (x ∷ []) x
last_one x = (0, omega arith, refl)

within_more : (old new : MomentSpan) (moments : List ℕ) (x : ℕ) → new.first ≤ old.first
    → old.last ≤ new.last → IsWithin new x
    → AllByRecursion (IsWithin old) moments → AllByRecursion (IsWithin new) (moments ++ x ∷ [])
within_more old new [] x first last is all = (is, tt)
within_more old new (m ∷ moments) x first last is all = (
  (omega (arith, all.0.0, first), omega (arith, all.0.1, last)),
  within_more old new moments x first last is all.1,
)

-- the first moment
pub one_moment : (x : ℕ) (moments : List ℕ) → moments ≡ []
    → IsSpan (moments ++ x ∷ []) (Some (record {
      first = x;
      last = x;
    }))
one_moment x moments none =
    let P : List ℕ → Type 0 = λ ms. IsSpan (ms ++ x ∷ []) (Some (record { first = x; last = x })) in
    subst P (sym none) (last_one x, last_one x, ((omega arith, omega arith), tt))

-- the least of two is one of them
least_of : (moments : List ℕ) (a x : ℕ) → Contains moments a
    → Contains (moments ++ x ∷ []) (min a x)
least_of moments a x has = by_cases (min_cases a x)
  where
    min_cases : (a x : ℕ) → (min a x ≡ a) ⊎ (min a x ≡ x)
    min_cases a x = grind arith

    by_cases : (min a x ≡ a) ⊎ (min a x ≡ x) → Contains (moments ++ x ∷ []) (min a x)
    by_cases (inl e) = subst (λ y. Contains (moments ++ x ∷ []) y) (sym e)
        (Contains-append_left moments (x ∷ []) a has)
    by_cases (inr e) = subst (λ y. Contains (moments ++ x ∷ []) y) (sym e)
        (Contains-append_right moments (x ∷ []) x (last_one x))

greatest_of : (moments : List ℕ) (a x : ℕ) → Contains moments a
    → Contains (moments ++ x ∷ []) (max a x)
greatest_of moments a x has = by_cases (max_cases a x)
  where
    max_cases : (a x : ℕ) → (max a x ≡ a) ⊎ (max a x ≡ x)
    max_cases a x = grind arith

    by_cases : (max a x ≡ a) ⊎ (max a x ≡ x) → Contains (moments ++ x ∷ []) (max a x)
    by_cases (inl e) = subst (λ y. Contains (moments ++ x ∷ []) y) (sym e)
        (Contains-append_left moments (x ∷ []) a has)
    by_cases (inr e) = subst (λ y. Contains (moments ++ x ∷ []) y) (sym e)
        (Contains-append_right moments (x ∷ []) x (last_one x))

-- one moment more
pub more_moments : (moments : List ℕ) (x first last : ℕ) → IsSpan moments (Some (record {
  first = first;
  last = last;
}))
    → (low high : ℕ) → low ≡ min first x → high ≡ max last x
    → IsSpan (moments ++ x ∷ []) (Some (record {
      first = low;
      last = high;
    }))
more_moments moments x first last (has_first, has_last, all) low high is_low is_high = (
  subst (λ y. Contains (moments ++ x ∷ []) y) (sym is_low) (least_of moments first x has_first),
  subst (λ y. Contains (moments ++ x ∷ []) y) (sym is_high) (greatest_of moments last x has_last),
  within_more (record {
    first = first;
    last = last;
  }) (record {
    first = low;
    last = high;
  }) moments x (omega arith) (omega arith) (omega arith, omega arith) all,
)
