use Prim.Native.Nat.{◌+◌, ◌*◌}
use Rattle.settlement.proofs.bill_by_threads.+bills.Given as goal

abbrev pub decreases-bill_of_runs : goal.decreases-bill_of_runs
decreases-bill_of_runs g l = 2 * l.threads

abbrev pub decreases-first : goal.decreases-first
decreases-first g l = 2 * l.fewer + 1

abbrev pub decreases-second : goal.decreases-second
decreases-second g l = 2 * l.others + 1
