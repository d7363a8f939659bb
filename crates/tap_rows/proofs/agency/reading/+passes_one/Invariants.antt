use Rattle.std.proofs.Common.{length}
use Rattle.tap_rows.proofs.agency.reading.+passes_one.Given as goal

abbrev pub decreases-passes_one : goal.decreases-passes_one
decreases-passes_one l = length l.tests.now
