use Rattle.std.proofs.Common.{◌≤◌, take, vec_capacity}
use Rattle.fare_texts.specs.{ReportLines.token_line, WrittenOut.GoesOut}
use Rattle.std.specs.List.{flat_map}
use Rattle.report_texts.proofs.token_lines.write_lines.Given as goal

abbrev pub invariant-loop-position : goal.invariant-loop-position
invariant-loop-position g l = record {
  room : 384 ≤ vec_capacity l.text;
  lines : GoesOut (g.W.Write.contents l.fn.out) l.fn.text.items (g.W.Write.contents l.out)
      l.text.items (flat_map token_line (take l.position l.sums));
}
