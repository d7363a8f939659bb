use Rattle.std.proofs.Common.{length}
use Rattle.tap_rows.proofs.agency.reading.+passes_any.Given as goal

abbrev pub decreases-passes_any : goal.decreases-passes_any
decreases-passes_any l = length l.tests.now
