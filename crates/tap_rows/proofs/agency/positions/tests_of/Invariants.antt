use Rattle.csv.specs.Records.{fields_of}
use Rattle.std.specs.{List.AllZip, Prelude.take}
use Rattle.tap_rows.specs.inside.Positions.{IsTestOf}
use Rattle.tap_rows.proofs.agency.positions.tests_of.Given as goal

abbrev pub invariant-loop-index : goal.invariant-loop-index
invariant-loop-index l =
    AllZip (IsTestOf (fields_of l.fn.head)) (take l.index l.fn.conditions) l.tests.items
