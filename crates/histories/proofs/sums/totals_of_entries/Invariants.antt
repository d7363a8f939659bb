use Rattle.std.proofs.Common.{◌≡◌, take}
use Rattle.histories.specs.{Sums.sums, Tally.sums_of_tally}
use Rattle.histories.proofs.sums.totals_of_entries.Given as goal

abbrev pub invariant-loop-entry : goal.invariant-loop-entry
invariant-loop-entry l = sums_of_tally l.tally ≡ sums (take l.entry-index l.entries)
