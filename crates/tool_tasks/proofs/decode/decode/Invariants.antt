use Rattle.std.proofs.Common.{◌≡◌, ◌++◌, List, drop, map, ℕ}
use Rattle.frame.specs.Given.{gave}
use Rattle.tool_tasks.specs.Decode.{Decoded, are_whole, decoding_of, words_of}
use Rattle.tool_tasks.proofs.decode.decode.Given as goal

-- the uploads of the first words were decoded
abbrev pub invariant-loop-number : goal.invariant-loop-number
invariant-loop-number g l = (decoded : List Decoded) × (note : List ℕ)
    × (map (λ w. w.now) l.words ≡ words_of decoded ++ map (λ w. w.now) (drop l.number l.words))
    × (are_whole decoded ≡ l.succeeded)
    × (g.W.Inputs.run l.world ≡ gave (g.W.Inputs.run l.fn.world) (decoding_of decoded note))
