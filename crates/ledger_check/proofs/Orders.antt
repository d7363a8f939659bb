-- The order of taps with one more, and what it decides.
use Rattle.std.proofs.Common.{◌≡◌, ◌∙◌, ℕ, ◌+◌, ◌<◌, Bool, true, false, List, [], ◌∷◌, ◌++◌, length}
use Rattle.std.proofs.Common.{ap, Option, None, Some, refl, sym, arith, if◌then◌else◌, add-one}
use Rattle.std.proofs.Common.{add-zero, get_or, subst, zero, suc}
use Rattle.ledger_check.specs.Orders.{OrdersDecide, comes_before, first_early, last_of}
use Rattle.std.specs.{Option.option_or, Ordering.is_lt}
use Rattle.tap_views.specs.{TapOrder.tap_cmp, declared.encoder.TapFields.TapFields}

pub last-push : (last : Option TapFields) (taps : List TapFields) (tap : TapFields)
    → last_of last (taps ++ tap ∷ []) ≡ Some tap
last-push last [] tap = refl
last-push last (first ∷ taps) tap = last-push (Some first) taps tap

one_more : (early : Bool) (number : ℕ) (rest rest' next : Option ℕ)
    → rest' ≡ option_or rest next
    → (if early then Some number else rest')
    ≡ option_or (if early then Some number else rest) next
one_more true number rest rest' next is = refl
one_more false number rest rest' next is = is

pub early-push : (number : ℕ) (last : Option TapFields) (taps : List TapFields) (tap : TapFields)
    → first_early number last (taps ++ tap ∷ [])
    ≡ option_or (first_early number last taps)
    (if comes_before tap (last_of last taps) then Some (number + length taps) else None)
early-push number last [] tap =
    ap (λ (n : ℕ). if comes_before tap last then Some n else None) (sym (add-zero number))
early-push number last (first ∷ taps) tap =
    let count : (number + 1) + length taps ≡ number + length (first ∷ taps) = omega arith in
    one_more (comes_before first last) number (first_early (number + 1) (Some first) taps)
    (first_early (number + 1) (Some first) (taps ++ tap ∷ [])) _
    (early-push (number + 1) (Some first) taps tap
    ∙ ap (λ (n : ℕ). option_or (first_early (number + 1) (Some first) taps)
    (if comes_before tap (last_of (Some first) taps) then Some n else None)) count)

-- no tap comes before the one before it
abbrev At : List TapFields → TapFields → ℕ → Type 0
At taps d k = is_lt (tap_cmp (get_or taps (suc k) d) (get_or taps k d)) ≡ false

none_parts : (early : Bool) (number : ℕ) (rest : Option ℕ)
    → (if early then Some number else rest) ≡ None → (early ≡ false) × (rest ≡ None)
none_parts true number rest is = absurd (cc)
none_parts false number rest is = (refl, is)

none_joined : (early : Bool) (number : ℕ) (rest : Option ℕ) → early ≡ false → rest ≡ None
    → (if early then Some number else rest) ≡ None
none_joined true number rest apart is = absurd (cc)
none_joined false number rest apart is = is

sorted_at : (number : ℕ) (first : TapFields) (taps : List TapFields)
    → first_early number (Some first) taps ≡ None
    → (k : ℕ) (d : TapFields) → suc k < length (first ∷ taps) → At (first ∷ taps) d k
sorted_at number first [] none k d within = absurd (omega (arith, within))
sorted_at number first (next ∷ taps) none zero d within =
    (none_parts (comes_before next (Some first)) number
    (first_early (number + 1) (Some next) taps) none).0
sorted_at number first (next ∷ taps) none (suc k) d within =
    sorted_at (number + 1) next taps
    (none_parts (comes_before next (Some first)) number
    (first_early (number + 1) (Some next) taps) none).1
    k d (omega (arith, within))

none_early : (number : ℕ) (first : TapFields) (taps : List TapFields)
    → ((k : ℕ) (d : TapFields) → suc k < length (first ∷ taps) → At (first ∷ taps) d k)
    → first_early number (Some first) taps ≡ None
none_early number first [] up = refl
none_early number first (next ∷ taps) up =
    none_joined (comes_before next (Some first)) number
    (first_early (number + 1) (Some next) taps) (up 0 first (omega arith))
    (none_early (number + 1) next taps (λ k d within. up (suc k) d (omega (arith, within))))

-- no tap is early exactly if all stand in canonical order
pub decide : OrdersDecide
decide [] = (λ none k d low within. absurd (omega (arith, within)), λ up. refl)
decide (first ∷ taps) = (
  λ none k d low within.
      subst (λ (n : ℕ). is_lt (tap_cmp (get_or (first ∷ taps) n d) (get_or (first ∷ taps) k d))
      ≡ false) (sym (add-one k)) (sorted_at 3 first taps none k d (omega (arith, within))),
  λ up.
      none_early 3 first taps (λ k d within.
      subst (λ (n : ℕ). is_lt (tap_cmp (get_or (first ∷ taps) n d) (get_or (first ∷ taps) k d))
      ≡ false) (add-one k) (up k d (omega arith) (omega (arith, within)))),
)
