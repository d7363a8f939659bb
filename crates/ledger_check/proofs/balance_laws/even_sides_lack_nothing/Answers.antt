use Rattle.std.proofs.Common.{◌≡◌, List, [], ◌∷◌, refl, arith}
use Rattle.std.proofs.lemmas.List.Sums.{sum_by-cons}
use Rattle.tap_views.specs.declared.encoder.TapFields.{TapFields}
use Rattle.ledger_check.specs.Balances.{copies_among}
use Rattle.ledger_check.proofs.Times.{one, one_self, permutation_of_times, times_permutation}
use Rattle.ledger_check.proofs.balance_laws.even_sides_lack_nothing.Goals as goal

-- taps of which none is there are none
none_there : (taps : List TapFields) → ((tap : TapFields) → copies_among tap taps ≡ 0) → taps ≡ []
none_there [] none = refl
none_there (tap ∷ taps) none =
    let here = none tap in
    let whole = sum_by-cons (one tap) tap taps in
    let self = one_self tap in
    absurd (omega (arith, here, whole, self))

pub returns-clause-none : goal.returns-clause-none
returns-clause-none c = λ valid others missing surplus lacks lacks_too moved. (
  none_there missing (λ tap.
      let here = lacks.copies tap in
      let same = times_permutation tap valid others moved in
      omega (arith, here, same)),
  none_there surplus (λ tap.
      let here = lacks_too.copies tap in
      let same = times_permutation tap valid others moved in
      omega (arith, here, same)),
)

pub returns-clause-even : goal.returns-clause-even
returns-clause-even c = λ valid others lacks lacks_too.
    permutation_of_times valid others (λ tap.
    let here = lacks.copies tap in
    let there = lacks_too.copies tap in
    omega (arith, here, there))
