use Rattle.tap_rows.specs.inside.TapTables.{HasEncoded}
use Rattle.tap_rows.proofs.into_upload.encode.Given as goal

abbrev pub invariant-loop-number : goal.invariant-loop-number
invariant-loop-number l = HasEncoded l.fn.table l.left l.number l.growing
