use Rattle.std.proofs.Common.{◌≡◌, ◌++◌, drop}
use Rattle.world.proofs.ghost_bytes.GhostBytes.of.Given as goal

abbrev pub invariant-loop-byte : goal.invariant-loop-byte
invariant-loop-byte l = l.copy.bytes ++ drop l.byte-index l.bytes ≡ l.bytes
