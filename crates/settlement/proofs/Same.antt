-- Uploads with the same taps are settled as files that read alike.
use Rattle.std.proofs.Common.{◌≡◌, ℕ, ◌+◌, ◌==◌, List, ◌∷◌, map, filter, Bool, true, [], false}
use Rattle.std.proofs.Common.{cond, refl, sym, ap, ◌∙◌, arith}
use Rattle.std.proofs.lemmas.List.Sums.{sum_by-cons}
use Rattle.std.specs.List.{sum_by}
use Rattle.tap_parts.specs.Parts.{taps_at}
use Rattle.tap_views.specs.{Encoding.fields_of, Layout.Tap}

-- ---- parts of lists
pub sum_filter : {X : Type 0} (p : X → Bool) (f : X → ℕ) (xs : List X)
    → sum_by f (filter p xs) ≡ sum_by (λ x. cond (p x) (f x) 0) xs
sum_filter p f [] = refl
sum_filter {X} p f (x ∷ xs) = by_test (p x) refl (sum_filter p f xs)
  where
    by_test : (b : Bool) → p x ≡ b → sum_by f (filter p xs) ≡ sum_by (λ y. cond (p y) (f y) 0) xs
        → sum_by f (filter p (x ∷ xs)) ≡ sum_by (λ y. cond (p y) (f y) 0) (x ∷ xs)
    by_test b e rest =
        let here = ap (λ t. sum_by f (cond t (x ∷ filter p xs) (filter p xs))) e in
        let there = sum_by-cons (λ (y : X). cond (p y) (f y) 0) x xs
        ∙ ap (λ t. cond t (f x) 0 + sum_by (λ y. cond (p y) (f y) 0) xs) e in
        here ∙ chosen b ∙ ap (λ n. cond b (f x) 0 + n) rest ∙ sym there
      where
        chosen : (b : Bool) → sum_by f (cond b (x ∷ filter p xs) (filter p xs))
            ≡ cond b (f x) 0 + sum_by f (filter p xs)
        chosen true = sum_by-cons f x (filter p xs)
        chosen false = omega arith

-- a part is known by its fields
pub part_fields : (part_of : List ℕ → ℕ) (part : ℕ) (taps : List Tap)
    → map fields_of (taps_at part_of part taps)
    ≡ filter (λ f. part_of f.token == part) (map fields_of taps)
part_fields part_of part [] = refl
part_fields part_of part (tap ∷ taps) =
    by_test (part_of tap.token == part) refl (part_fields part_of part taps)
  where
    by_test : (b : Bool) → (part_of tap.token == part) ≡ b
        → map fields_of (taps_at part_of part taps)
        ≡ filter (λ f. part_of f.token == part) (map fields_of taps)
        → map fields_of (taps_at part_of part (tap ∷ taps))
        ≡ filter (λ f. part_of f.token == part) (map fields_of (tap ∷ taps))
    by_test true e rest = rw e (ap (λ fs. fields_of tap ∷ fs) rest)
    by_test false e rest = rw e rest
