use Rattle.std.proofs.Common.{◌≡◌, ◌++◌, map}
use Rattle.tap_views.specs.Encoding.{fields_of}
use Rattle.tap_rows.specs.Rows.{rows_text}
use Rattle.tap_rows.proofs.into_table.push_rows.Given as goal

abbrev pub invariant-loop-tap : goal.invariant-loop-tap
invariant-loop-tap l = record {
  may : (goal.iterator-loop-tap).can_next l.tap-iterator;
  ends : (goal.iterator-loop-tap).is_finite l.tap-iterator;
  all : l.yielded ++ l.tap-iterator ≡ l.batch;
  rows : l.text.items ≡ l.fn.text.items ++ rows_text (map fields_of l.yielded);
}
