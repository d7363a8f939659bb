use Rattle.std.proofs.Common.{◌≡◌, length, take}
use Rattle.tap_rows.specs.Keys.{masked}
use Rattle.tap_rows.proofs.agency.key.masked.Given as goal

abbrev pub invariant-loop-index : goal.invariant-loop-index
invariant-loop-index l =
    (take l.index l.out ≡ masked l.mask (take l.index l.block)) × (length l.out ≡ 64)
