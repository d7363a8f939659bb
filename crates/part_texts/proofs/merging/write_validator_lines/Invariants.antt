use Rattle.std.proofs.Common.{◌≡◌, ◌++◌, map}
use Rattle.fare_texts.specs.ReportLines.{validator_line}
use Rattle.histories.specs.Sums.{sums_of}
use Rattle.part_texts.specs.inside.Fronts.{shown_sums}
use Rattle.std.specs.{Map.Iter.deref_pair, Prelude.flat_map, String.string_bytes}
use Rattle.part_texts.proofs.merging.write_validator_lines.Given as goal

abbrev pub invariant-loop-validator : goal.invariant-loop-validator
invariant-loop-validator l = string_bytes l.text ≡ string_bytes l.fn.text ++ flat_map validator_line
    (shown_sums sums_of (map deref_pair l.yielded))
