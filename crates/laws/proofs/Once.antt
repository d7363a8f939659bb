-- Taps in canonical order, each once: equal neighbours are billed as one, and what is left depends
-- on the set of taps alone.
use Rattle.std.proofs.Common.{◌≡◌, List, [], ◌∷◌, ◌++◌, Bool, true, false, cond, refl, sym, ap}
use Rattle.std.proofs.Common.{subst, ◌∙◌, arith, inl, inr}
use Rattle.histories.specs.{Plain.answered, declared.entry.Entry.Entry}
use Rattle.laws.proofs.Posts.{SameBill, bill-refl, bill-trans, bill-cons, bill-twice}
use Rattle.settlement.proofs.Contained.{first_there, later_there, there_cases}
use Rattle.settlement.proofs.Histories.{entry_of}
use Rattle.std.proofs.lemmas.List.Elements.{All-from_recursion, All-contains}
use Rattle.std.specs.{Cmp.IsTotalOrder, Cmp.tied_itself, Cmp.Equal-is, List.dedup, List.dedup_from}
use Rattle.std.specs.{List.Sorted.IsStrictlySortedBy, Ordering.eq_by_cmp, Ordering.ordering_reverse}
use Rattle.std.specs.{Prelude.◌⊎◌, Prelude.Contains, declared.cmp.Ordering.Ordering}
use Rattle.std.specs.declared.cmp.Ordering.TheVariants.{Less, Equal, Greater}
use Rattle.tap_parts.proofs.Total.{tap_cmp_exact}
use Rattle.tap_parts.specs.Canonical.{tap_cmp}
use Rattle.tap_views.specs.declared.encoder.TapFields.{TapFields}
use Rattle.tariffs.specs.Fares.{Fares}

-- whether taps are equal
abbrev pub same_tap : TapFields → TapFields → Bool
same_tap = eq_by_cmp tap_cmp

once_from : (fares : Fares) (earlier : List Entry) (f : TapFields) (fs : List TapFields)
    → SameBill fares earlier (f ∷ fs) (dedup_from same_tap f fs)
once_from fares earlier f [] = bill-refl fares earlier (f ∷ [])
once_from fares earlier f (x ∷ fs) =
    by_test (same_tap x f) refl (once_from fares earlier f fs)
    (once_from fares (earlier ++ answered fares earlier (entry_of f) ∷ []) x fs)
  where
    by_test : (b : Bool) → same_tap x f ≡ b
        → SameBill fares earlier (f ∷ fs) (dedup_from same_tap f fs)
        → SameBill fares (earlier ++ answered fares earlier (entry_of f) ∷ []) (x ∷ fs)
        (dedup_from same_tap x fs)
        → SameBill fares earlier (f ∷ x ∷ fs)
        (cond b (dedup_from same_tap f fs) (f ∷ dedup_from same_tap x fs))
    by_test true e rest later =
        let same : x ≡ f = tap_cmp_exact x f ((Equal-is (tap_cmp x f)).0 e) in
        let B : TapFields → Type 0 =
        λ y. SameBill fares earlier (f ∷ y ∷ fs) (dedup_from same_tap f fs) in
        subst B (sym same)
        (bill-trans fares earlier (f ∷ f ∷ fs) (f ∷ fs) (dedup_from same_tap f fs)
        (bill-twice fares earlier f fs) rest)
    by_test false e rest later =
        bill-cons fares earlier f (x ∷ fs) (dedup_from same_tap x fs) later

-- taps are billed as each of their runs of equal taps once
pub once : (fares : Fares) (earlier : List Entry) (fs : List TapFields)
    → SameBill fares earlier fs (dedup same_tap fs)
once fares earlier [] = bill-refl fares earlier []
once fares earlier (f ∷ fs) = once_from fares earlier f fs

-- ---- strictly sorted lists with the same elements
-- each element of the one list is one of the other
abbrev pub Among : {X : Type 0} → List X → List X → Type 0
Among {X} xs ys = (z : X) → Contains xs z → Contains ys z

module _ {X : Type 0} (cmp : X → X → Ordering) (o : IsTotalOrder cmp) where
  above : (x : X) (xs : List X) (z : X) → IsStrictlySortedBy cmp (x ∷ xs) → Contains xs z
      → cmp x z ≡ Less
  unfolding IsStrictlySortedBy
  above x xs z up there =
      All-contains (λ y. cmp x y ≡ Less) xs z (All-from_recursion (λ y. cmp x y ≡ Less) xs up.0)
      there

  not_both : (x y : X) → cmp x y ≡ Less → cmp y x ≡ Less → ⊥
  not_both x y one other =
      let e : Less ≡ Greater = sym one ∙ o.antisymm x y ∙ ap ordering_reverse other in cc

  not_itself : (x : X) → cmp x x ≡ Less → ⊥
  not_itself x less = let e : Less ≡ Equal = sym less ∙ tied_itself o x in cc

  same_first : (x y : X) (xs ys : List X) → IsStrictlySortedBy cmp (x ∷ xs)
      → IsStrictlySortedBy cmp (y ∷ ys) → Among (x ∷ xs) (y ∷ ys) → Among (y ∷ ys) (x ∷ xs) → x ≡ y
  same_first x y xs ys up again there back =
      by_cases (there_cases y x ys (there x (first_there x xs)))
      (there_cases x y xs (back y (first_there y ys)))
    where
      by_cases : (y ≡ x) ⊎ Contains ys x → (x ≡ y) ⊎ Contains xs y → x ≡ y
      by_cases (inl e) other = sym e
      by_cases (inr later) (inl e) = e
      by_cases (inr later) (inr other) =
          absurd (not_both x y (above x xs y up other) (above y ys x again later))

  rest_among : (x : X) (xs ys : List X) → IsStrictlySortedBy cmp (x ∷ xs)
      → Among (x ∷ xs) (x ∷ ys) → Among xs ys
  rest_among x xs ys up there z in_rest =
      by_cases (there_cases x z ys (there z (later_there x z xs in_rest)))
    where
      by_cases : (x ≡ z) ⊎ Contains ys z → Contains ys z
      by_cases (inr later) = later
      by_cases (inl e) =
          let L : X → Type 0 = λ w. cmp x w ≡ Less in
          absurd (not_itself x (subst L (sym e) (above x xs z up in_rest)))

  pub same_set : (xs ys : List X) → IsStrictlySortedBy cmp xs → IsStrictlySortedBy cmp ys
      → Among xs ys → Among ys xs → xs ≡ ys
  unfolding IsStrictlySortedBy
  same_set [] [] up again there back = refl
  same_set [] (y ∷ ys) up again there back = absurd (omega (arith, (back y (first_there y ys)).1))
  same_set (x ∷ xs) [] up again there back = absurd (omega (arith, (there x (first_there x xs)).1))
  same_set (x ∷ xs) (y ∷ ys) up again there back =
      let first : x ≡ y = same_first x y xs ys up again there back in
      let A : X → Type 0 = λ z. Among (x ∷ xs) (z ∷ ys) in
      let B : X → Type 0 = λ z. Among (z ∷ ys) (x ∷ xs) in
      let S : X → Type 0 = λ z. IsStrictlySortedBy cmp (z ∷ ys) in
      let rest = same_set xs ys up.1 again.1
      (rest_among x xs ys up (subst A (sym first) there))
      (rest_among x ys xs (subst S (sym first) again) (subst B (sym first) back)) in
      ap (λ z. z ∷ xs) first ∙ ap (λ zs. y ∷ zs) rest
