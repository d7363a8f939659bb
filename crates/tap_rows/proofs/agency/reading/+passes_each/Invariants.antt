use Rattle.std.proofs.Common.{length}
use Rattle.tap_rows.proofs.agency.reading.+passes_each.Given as goal

abbrev pub decreases-passes_each : goal.decreases-passes_each
decreases-passes_each l = length l.left.now
