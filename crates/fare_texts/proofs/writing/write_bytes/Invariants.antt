use Rattle.std.proofs.Common.{◌≡◌, ◌++◌, ℕ, List}
use Rattle.std.specs.Io.KnownBytes.{Appends}
use Rattle.fare_texts.proofs.writing.write_bytes.Given as goal

-- a beginning of the bytes was written
abbrev pub invariant-loop-write : goal.invariant-loop-write
invariant-loop-write g l = record {
  front : List ℕ;
  whole : l.bytes ≡ front ++ l.rest;
  written : Appends (g.W.Write.contents l.fn.out) (g.W.Write.contents l.out) front;
}
