use Rattle.std.proofs.Common.{◌≡◌, ◌*◌, ◌<◌, ◌≤◌, true, All, length}
use Rattle.tariffs.specs.RiderFilter.{may_contain}
use Rattle.tariffs.proofs.riders.marks.RiderFilter.new.Given as goal

abbrev pub invariant-loop-token : goal.invariant-loop-token
invariant-loop-token l = record {
  marked : All (λ token. may_contain l.marks.items token.now ≡ true) l.yielded;
  few : length l.marks.items ≤ 16 * length l.riders.entries;
  some : 0 < length l.riders.entries → 0 < length l.marks.items;
}
