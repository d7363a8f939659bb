use Rattle.std.proofs.Common.{◌≡◌, string_bytes, take}
use Rattle.report_texts.specs.Report.{upload_lines}
use Rattle.tool_tasks.proofs.sort.lines_of.Given as goal

abbrev pub invariant-loop-number : goal.invariant-loop-number
invariant-loop-number l = string_bytes l.text ≡ upload_lines 0 (take l.number l.ends)
