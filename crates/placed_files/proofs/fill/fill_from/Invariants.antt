use Rattle.std.proofs.Common.{◌≡◌, ◌≤◌, IfSome, length}
use Rattle.placed_files.specs.inside.Started.{IsStartedFrom}
use Rattle.placed_files.proofs.fill.fill_from.Given as goal

abbrev pub invariant-loop : goal.invariant-loop
invariant-loop g l = record {
  most : l.at ≤ length l.buffer;
  long : length l.buffer ≡ length l.fn.buffer;
  started : IfSome (g.F.Placed.bytes l.file) (λ all. IsStartedFrom all l.offset l.buffer l.at);
}
