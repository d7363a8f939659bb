use Rattle.std.proofs.Common.{◌≡◌, drop}
use Rattle.std.specs.List.{find}
use Rattle.fare_table.specs.Transfers.{same_modes}
use Rattle.fare_table.proofs.read.transfers.find.Given as goal

-- what is left decides
abbrev pub invariant-loop-other : goal.invariant-loop-other
invariant-loop-other l =
    find (same_modes l.one) (drop l.other-index l.found) ≡ find (same_modes l.one) l.found
