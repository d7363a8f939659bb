use Rattle.std.proofs.Common.{◌≡◌, map, take}
use Rattle.tool_words.specs.Request.{inputs_in}
use Rattle.tool_words.proofs.reading.inputs_in.Given as goal

-- so many of the words so far stand for standard input
abbrev pub invariant-loop-word : goal.invariant-loop-word
invariant-loop-word l = l.inputs ≡ inputs_in (map (λ w. w.now) (take l.word-index l.words))
