use Rattle.std.proofs.Common.{◌≡◌, length}
use Rattle.sorted_taps.proofs.stamps.stamps_of.Given as goal

abbrev pub invariant-loop-file : goal.invariant-loop-file
invariant-loop-file g l = length l.stamps.items ≡ l.file-index
