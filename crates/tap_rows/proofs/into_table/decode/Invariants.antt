use Rattle.std.proofs.Common.{◌≡◌, ◌++◌}
use Rattle.tap_rows.specs.{Decoded.fields_in, Rows.rows_text}
use Rattle.tap_views.specs.Files.{IsReadAs}
use Rattle.tap_rows.proofs.into_table.decode.Given as goal

abbrev pub invariant-loop-batch : goal.invariant-loop-batch
invariant-loop-batch l = record {
  may : (goal.iterator-loop-batch).can_next l.valid;
  ends : (goal.iterator-loop-batch).is_finite l.valid;
  read : IsReadAs l.file (l.yielded ++ l.valid.batches) l.valid.fault;
  rows : l.text.items ≡ l.fn.text.items ++ rows_text (fields_in l.yielded);
}
