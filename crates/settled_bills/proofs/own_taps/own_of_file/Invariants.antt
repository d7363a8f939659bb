use Rattle.std.proofs.Common.{◌≤◌, IfSome, length}
use Rattle.sorted_taps.specs.Reading.{window_bytes}
use Rattle.settled_bills.proofs.OwnTaps.{IsOwnRead}
use Rattle.settled_bills.proofs.own_taps.own_of_file.Given as goal

-- the token's taps were added so far
abbrev pub invariant-loop : goal.invariant-loop
invariant-loop g l = record {
  window : window_bytes ≤ length l.window;
  read : IfSome (g.F.Placed.bytes l.file) (λ all. IsOwnRead l.fn.token all l.taps.items l.reader);
}
