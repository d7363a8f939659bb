use Rattle.std.proofs.Common.{◌≡◌, ◌++◌, take}
use Rattle.settled_bills.specs.Traces.{numbered}
use Rattle.settled_bills.proofs.trace.add_numbered.Given as goal

abbrev pub invariant-loop-index : goal.invariant-loop-index
invariant-loop-index l =
    l.taps.items ≡ l.fn.taps.items ++ numbered l.upload 1 (take l.index l.list)
