-- Lists in which each tap is equally often are the same but for their order.
use Rattle.std.proofs.Common.{◌≡◌, ℕ, ◌+◌, ◌<◌, Bool, true, false, cond, List, [], ◌∷◌, ◌++◌, refl}
use Rattle.std.proofs.Common.{sym, ap, subst, ◌∙◌, arith}
use Rattle.std.specs.List.Sorted.{IsPermutation}
use Rattle.std.proofs.lemmas.List.Sorted.{IsPermutation-cons, IsPermutation-middle}
use Rattle.std.proofs.lemmas.List.Sorted.{IsPermutation-refl, IsPermutation-sym}
use Rattle.std.proofs.lemmas.List.Sorted.{IsPermutation-trans, sum_by-IsPermutation}
use Rattle.std.proofs.lemmas.List.Sums.{sum_by-append, sum_by-cons, sum_by_push}
use Rattle.tap_views.specs.declared.encoder.TapFields.{TapFields}
use Rattle.ledger_check.specs.Balances.{is_same, copies_among}
use Rattle.ledger_check.proofs.SameTaps.{same_exact, same_self}

-- 1 for the tap
abbrev pub one : TapFields → TapFields → ℕ
one tap other = cond (is_same other tap) 1 0

pub one_self : (tap : TapFields) → one tap tap ≡ 1
one_self tap = ap (λ (b : Bool). cond b 1 0) (same_self tap)

pub times_push : (tap : TapFields) (taps : List TapFields) (last : TapFields)
    → copies_among tap (taps ++ last ∷ []) ≡ copies_among tap taps + one tap last
times_push tap taps last = sum_by_push (one tap) taps last

-- a tap that is there, and what stands around it
record Found (tap : TapFields) (taps : List TapFields) : Type 0 where
  pub front : List TapFields
  pub back : List TapFields
  pub is : taps ≡ front ++ tap ∷ back

find : (tap : TapFields) (taps : List TapFields) → 0 < copies_among tap taps → Found tap taps
find tap [] some = absurd (omega (arith, some))
find tap (other ∷ taps) some = by_test (is_same other tap) refl (find tap taps)
  where
    by_test : (b : Bool) → is_same other tap ≡ b → (0 < copies_among tap taps → Found tap taps)
        → Found tap (other ∷ taps)
    by_test true e later = record {
      front = [];
      back = taps;
      is = ap (λ (t : TapFields). t ∷ taps) (same_exact other tap e);
    }
    by_test false e later =
        let none : one tap other ≡ 0 = ap (λ (b : Bool). cond b 1 0) e in
        let whole = sum_by-cons (one tap) other taps in
        let rest = later (omega (arith, some, none, whole)) in
        record {
          front = other ∷ rest.front;
          back = rest.back;
          is = ap (λ (ts : List TapFields). other ∷ ts) rest.is;
        }

pub times_permutation : (tap : TapFields) (taps others : List TapFields) → IsPermutation taps others
    → copies_among tap others ≡ copies_among tap taps
times_permutation tap taps others moved = sum_by-IsPermutation (one tap) taps others moved

pub permutation_of_times : (taps others : List TapFields)
    → ((tap : TapFields) → copies_among tap taps ≡ copies_among tap others)
    → IsPermutation taps others
permutation_of_times [] [] same = IsPermutation-refl []
permutation_of_times [] (other ∷ others) same =
    absurd (let none = same other in let whole = sum_by-cons (one other) other others in omega
    (arith, none, whole, one_self other))
permutation_of_times (tap ∷ taps) others same =
    let whole = sum_by-cons (one tap) tap taps in
    let there = find tap others (let e = same tap in omega (arith, e, whole, one_self tap)) in
    let rest : (t : TapFields) → copies_among t taps ≡ copies_among t (there.front ++ there.back) =
    λ t.
    let all : copies_among t (tap ∷ taps) ≡ copies_among t (there.front ++ tap ∷ there.back) =
    same t ∙ ap (copies_among t) there.is in
    let left = sum_by-cons (one t) tap taps in
    let cut = sum_by-append (one t) there.front (tap ∷ there.back) in
    let right = sum_by-cons (one t) tap there.back in
    let joined = sum_by-append (one t) there.front there.back in
    omega (arith, all, left, cut, right, joined) in
    let moved = IsPermutation-cons tap taps (there.front ++ there.back)
    (permutation_of_times taps (there.front ++ there.back) rest) in
    let into = IsPermutation-sym (there.front ++ tap ∷ there.back) (tap
    ∷ (there.front ++ there.back)) (IsPermutation-middle there.front tap there.back) in
    subst (λ (ts : List TapFields). IsPermutation (tap ∷ taps) ts) (sym there.is)
    (IsPermutation-trans (tap ∷ taps) (tap ∷ (there.front ++ there.back)) (there.front ++ tap
    ∷ there.back) moved into)
