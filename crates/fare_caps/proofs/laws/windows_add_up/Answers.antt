use Rattle.fare_caps.proofs.{BillLemmas.rides-bill, CeilingLemmas.windows-sum}
use Rattle.fare_caps.specs.CapWindows.{charged}
use Rattle.fare_caps.proofs.laws.windows_add_up.Goals as goal

pub returns-clause-windows : goal.returns-clause-windows
returns-clause-windows c = λ capped taps cap. windows-sum cap (charged capped taps)

pub returns-clause-bill : goal.returns-clause-bill
returns-clause-bill c = rides-bill
