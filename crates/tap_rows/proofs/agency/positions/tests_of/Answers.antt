use Rattle.std.proofs.Common.{arith, refl}
use Rattle.csv.specs.Records.{fields_of}
use Rattle.tap_rows.proofs.AgencyRowLemmas.{tests_more}
use Rattle.tap_rows.proofs.agency.positions.tests_of.Goals as goal

pub loop-index-preserved : goal.loop-index-preserved
loop-index-preserved c =
    tests_more (fields_of c.args.head.now) c.args.conditions.now c.loop-index.tests.items
    c.push.new.self.items c.loop-index.index _ _ c.loop-index.invariant (omega arith)
    c.in_ok-push.ensures.items (c.in_ok-position.ensures.position, refl)
