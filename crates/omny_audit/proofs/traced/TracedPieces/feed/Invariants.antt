use Rattle.std.proofs.Common.{◌≡◌, List, ℕ, ◌++◌, length}
use Rattle.omny_audit.specs.{Traced.ReadLine, inside.Traced.HasTraced, inside.Traced.wanted_of}
use Rattle.omny_audit.proofs.traced.TracedPieces.feed.Given as goal

-- a front of the piece was read
abbrev pub invariant-loop-rest : goal.invariant-loop-rest
invariant-loop-rest l = record {
  consumed : List ℕ;
  whole : l.piece ≡ consumed ++ l.rest;
  wanted : wanted_of l.self.so_far ≡ wanted_of l.fn.self.so_far;
  read : (file before : List ℕ) (read : List ReadLine)
      → HasTraced l.fn.self file (before ++ l.fn.text.items) read → (read' : List ReadLine)
      × HasTraced l.self (file ++ consumed) (before ++ l.text.items) read';
}

abbrev pub decreases-loop-rest : goal.decreases-loop-rest
decreases-loop-rest l = length l.rest
