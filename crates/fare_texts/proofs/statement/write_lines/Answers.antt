use Rattle.std.proofs.Common.{◌++◌, string_bytes}
use Rattle.fare_texts.proofs.{Parts.in_parts, StatementLines.next_line}
use Rattle.fare_texts.proofs.statement.write_lines.Goals as goal

pub loop-position-preserved : goal.loop-position-preserved
loop-position-preserved c =
    let before = c.loop-position.invariant in
    let line = c.in_ok-write_entry.ensures in (
      before.0 ++ line.0,
      next_line c.args.table.now c.args.lines.now c.loop-position.position c.get.result.now before.0
          line.0 c.get.ensures before.1 line.1,
      in_parts (string_bytes c.args.text.now) (string_bytes c.loop-position.text)
          (string_bytes c.write_entry.new.text) before.0 line.0 before.2 line.2,
    )
