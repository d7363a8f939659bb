use Rattle.std.proofs.Common.{◌≡◌, ◌++◌, string_bytes, take}
use Rattle.part_texts.specs.Heads.{span_lines}
use Rattle.part_texts.proofs.head.write_spans.Given as goal

abbrev pub invariant-loop-file : goal.invariant-loop-file
invariant-loop-file l =
    string_bytes l.text ≡ string_bytes l.fn.text ++ span_lines 0 (take l.file l.spans)
