use Rattle.std.proofs.Common.{false}
use Rattle.recorded_lines.proofs.Reading.{IsAtLine}
use Rattle.recorded_lines.proofs.text.Lines.read_line.Given as goal

abbrev pub invariant-loop : goal.invariant-loop
invariant-loop l = IsAtLine l.fn.self l.self l.line.items false
