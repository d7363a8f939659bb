use Rattle.std.proofs.Common.{◌∙◌, Option, subst, sym, arith}
use Rattle.ledger_check.proofs.LineSums.{entries_few}
use Rattle.ledger_check.specs.{FullCheckStates.HasEntries, FullChecks.entries_from}
use Rattle.ledger_check.specs.declared.open_sums.OpenSums.{OpenSums}
use Rattle.ledger_check.proofs.lines_fed.LinesFed.entry_sums.Goals as goal

pub into_sums-requires : goal.into_sums-requires
into_sums-requires c =
    let (fares, text, taken, fed) = c.requires in
    let has = subst (λ (e : Option OpenSums). HasEntries e taken)
    (sym c.take.ensures.value ∙ c.in-Some.is) fed.lines.entries in
    (entries_from taken, has.1, omega (arith, fed.lines.sums.few, entries_few taken))

pub returns-in-Ok : goal.returns-in-Ok
returns-in-Ok c = λ fares text taken fed.
    let has = subst (λ (e : Option OpenSums). HasEntries e taken)
    (sym c.take.ensures.value ∙ c.in-Some.is) fed.lines.entries in
    (rw c.in-Ok.is at c.into_sums.ensures) (entries_from taken) has.1
