use Rattle.std.proofs.Common.{List, Some, arith}
use Rattle.ledger_check.proofs.{SameTaps.same_exact, SameTaps.same_of, Times.times_permutation}
use Rattle.ledger_check.specs.{Balances.IsDifference, declared.balance.Difference.Difference}
use Rattle.ledger_check.specs.declared.balance.Difference.TheVariants.{Missing, Surplus}
use Rattle.std.specs.List.Sorted.{IsPermutation}
use Rattle.tap_views.specs.declared.encoder.TapFields.{TapFields}
use Rattle.ledger_check.proofs.balance_laws.differences_are_real.Goals as goal

pub returns-clause-same : goal.returns-clause-same
returns-clause-same c = λ tap other. (same_exact tap other, same_of tap other)

differ : (valid others : List TapFields) (difference : Difference)
    → IsDifference valid others (Some difference) → IsPermutation valid others → ⊥
differ valid others (Missing tap) is moved = let e = times_permutation tap valid others moved in
    absurd (omega (arith, is, e))
differ valid others (Surplus tap) is moved = let e = times_permutation tap valid others moved in
    absurd (omega (arith, is, e))

pub returns-clause-apart : goal.returns-clause-apart
returns-clause-apart c = differ
