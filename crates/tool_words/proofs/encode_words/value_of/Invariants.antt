use Rattle.std.proofs.Common.{◌≡◌, drop, map}
use Rattle.tool_words.specs.{Columns.value_of, Tasks.condition_of}
use Rattle.tool_words.proofs.encode_words.value_of.Given as goal

-- what is left decides
abbrev pub invariant-loop-pair : goal.invariant-loop-pair
invariant-loop-pair l = value_of l.column (map condition_of (drop l.pair-index l.pairs))
    ≡ value_of l.column (map condition_of l.pairs)
