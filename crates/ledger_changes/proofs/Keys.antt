-- The order of keys is total, and keys that tie are the same.
use Rattle.std.proofs.Common.{◌≡◌, ℕ, List, true, ◌&&◌, ◌==◌, eqb-true}
use Rattle.ledger_changes.specs.Rows.{is_same_charge, is_same_text, key_cmp, text_cmp}
use Rattle.ledger_fields.specs.Rows.{Charge, Key}
use Rattle.std.proofs.lemmas.{Bool.and_parts, Cmp.nat_cmp_total, Cmp.on_total, Cmp.then_total}
use Rattle.std.specs.Cmp.{Equal-is, IsTotalOrder, Lexicographic.on_texts}
use Rattle.std.specs.FinMap.{IsAntisymmetric, nat_cmp-IsAntisymmetric, slice_cmp-IsAntisymmetric}
use Rattle.std.specs.Ordering.{nat_cmp, ordering_then}
use Rattle.tap_views.proofs.Orderings.{first_equal, then_equal}

pub key_cmp_total : IsTotalOrder key_cmp
key_cmp_total =
    then_total (on_texts (λ (k : Key). k.token))
    (then_total (on_texts (λ (k : Key). k.moment))
    (on_total (λ (k : Key). k.validator) nat_cmp_total))

pub key_cmp_exact : IsAntisymmetric key_cmp
key_cmp_exact a b e =
    let tokens = text_cmp a.token b.token in
    let moments = text_cmp a.moment b.moment in
    let validators = nat_cmp a.validator b.validator in
    let more = then_equal tokens (ordering_then moments validators) e in
    let token = slice_cmp-IsAntisymmetric nat_cmp-IsAntisymmetric a.token b.token
    (first_equal tokens (ordering_then moments validators) e) in
    let moment = slice_cmp-IsAntisymmetric nat_cmp-IsAntisymmetric a.moment b.moment
    (first_equal moments validators more) in
    let validator = nat_cmp-IsAntisymmetric a.validator b.validator
    (then_equal moments validators more) in
    λ i. record { token = token i; moment = moment i; validator = validator i }

-- ---- charges

pub tied : (a b : List ℕ) → is_same_text a b ≡ true → a ≡ b
tied a b e =
    slice_cmp-IsAntisymmetric nat_cmp-IsAntisymmetric a b ((Equal-is (text_cmp a b)).0 e)

pub same_charge : (a b : Charge) → is_same_charge a b ≡ true → a ≡ b
same_charge a b e =
    let first = and_parts (is_same_text a.answer b.answer)
    (a.cents == b.cents && is_same_text a.reason b.reason) e in
    let second = and_parts (a.cents == b.cents) (is_same_text a.reason b.reason) first.1 in
    let answer = tied a.answer b.answer first.0 in
    let cents : a.cents ≡ b.cents = eqb-true _ _ second.0 in
    let reason = tied a.reason b.reason second.1 in
    λ i. record { answer = answer i; cents = cents i; reason = reason i }
