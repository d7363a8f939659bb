use Prim.Native.Nat.{◌+◌, ◌*◌}
use Rattle.settlement.proofs.reading.+reads.Given as goal

abbrev pub decreases-read_by_threads : goal.decreases-read_by_threads
decreases-read_by_threads g l = 2 * l.halvings

abbrev pub decreases-first : goal.decreases-first
decreases-first g l = 2 * l.fewer + 1

abbrev pub decreases-second : goal.decreases-second
decreases-second g l = 2 * l.fewer + 1
