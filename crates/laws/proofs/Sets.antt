-- Canonical lists that have the same set of taps are billed alike.
use Rattle.std.proofs.Common.{◌≡◌, List, [], sym, subst, refl}
use Rattle.laws.proofs.Once.{Among, once, same_set, same_tap}
use Rattle.laws.proofs.Posts.{SameBill, bill-sym, bill-trans}
use Rattle.std.proofs.lemmas.List.Kept.{Contains-dedup, Contains-from_dedup}
use Rattle.std.proofs.lemmas.List.Kept.{IsStrictlySortedBy-dedup}
use Rattle.std.specs.{Cmp.eq_by_cmp_equiv, Cmp.Equal-is, List.dedup, List.Sorted.IsSorted}
use Rattle.tap_parts.proofs.Total.{tap_cmp_total, tap_cmp_exact}
use Rattle.tap_parts.specs.Canonical.{tap_cmp}
use Rattle.tap_views.specs.declared.encoder.TapFields.{TapFields}
use Rattle.tariffs.specs.Fares.{Fares}

-- what is among the others stays so when each run of equal taps is taken once
among_once : (xs ys : List TapFields) → Among xs ys
    → Among (dedup same_tap xs) (dedup same_tap ys)
among_once xs ys there = λ z c. Contains-dedup (eq_by_cmp_equiv tap_cmp_total)
    (λ x y e. tap_cmp_exact x y ((Equal-is (tap_cmp x y)).0 e)) ys z
    (there z (Contains-from_dedup same_tap xs z c))

pub same_bill : (fares : Fares) (xs ys : List TapFields) → IsSorted tap_cmp xs → IsSorted tap_cmp ys
    → Among xs ys → Among ys xs → SameBill fares [] xs ys
same_bill fares xs ys up again there back =
    let one = dedup same_tap xs in
    let other = dedup same_tap ys in
    let same : one ≡ other =
    same_set tap_cmp tap_cmp_total one other
    (IsStrictlySortedBy-dedup tap_cmp_total {E = same_tap} (λ x y. refl) xs up)
    (IsStrictlySortedBy-dedup tap_cmp_total {E = same_tap} (λ x y. refl) ys again)
    (among_once xs ys there) (among_once ys xs back) in
    let B : List TapFields → Type 0 = λ zs. SameBill fares [] zs ys in
    bill-trans fares [] xs one ys (once fares [] xs)
    (subst B (sym same) (bill-sym fares [] ys other (once fares [] ys)))
