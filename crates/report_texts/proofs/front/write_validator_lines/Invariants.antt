use Rattle.std.proofs.Common.{◌≡◌, ◌++◌, string_bytes, take, map}
use Rattle.std.specs.List.{flat_map}
use Rattle.histories.specs.Shown.{validator_sum}
use Rattle.fare_texts.specs.ReportLines.{validator_line}
use Rattle.report_texts.proofs.front.write_validator_lines.Given as goal

abbrev pub invariant-loop-sum : goal.invariant-loop-sum
invariant-loop-sum l =
    string_bytes l.text ≡ string_bytes l.fn.text ++ flat_map validator_line
    (map validator_sum (take l.sum-index l.sums))
