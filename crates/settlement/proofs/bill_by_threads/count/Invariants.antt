use Rattle.std.proofs.Common.{◌≡◌, flat_map, length, take}
use Rattle.settlement.proofs.Files.{taps_in}
use Rattle.settlement.proofs.bill_by_threads.count.Given as goal

abbrev pub invariant-loop-piece : goal.invariant-loop-piece
invariant-loop-piece l = l.taps ≡ length (flat_map taps_in (take l.piece-index l.pieces))
