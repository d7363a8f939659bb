-- Taps that compare equal are one tap.
use Rattle.std.proofs.Common.{◌≡◌, true, subst}
use Rattle.ledger_check.specs.Balances.{is_same}
use Rattle.std.specs.Cmp.{eq_by_cmp_equiv, Equal-is}
use Rattle.tap_views.proofs.TapOrders.{tap_cmp_exact, tap_cmp_total}
use Rattle.tap_views.specs.{TapOrder.tap_cmp, declared.encoder.TapFields.TapFields}

pub same_exact : (a b : TapFields) → is_same a b ≡ true → a ≡ b
same_exact a b is = tap_cmp_exact a b ((Equal-is (tap_cmp a b)).0 is)

pub same_self : (a : TapFields) → is_same a a ≡ true
same_self a = (eq_by_cmp_equiv tap_cmp_total).refl a

pub same_of : (a b : TapFields) → a ≡ b → is_same a b ≡ true
same_of a b e = subst (λ (x : TapFields). is_same a x ≡ true) e (same_self a)
