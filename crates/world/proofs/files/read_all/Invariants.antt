use Rattle.std.proofs.Common.{◌≡◌, ◌≤◌, take, vec_len}
use Rattle.world.proofs.files.read_all.Given as goal

abbrev pub invariant-loop : goal.invariant-loop
invariant-loop g l =
    (l.end ≤ vec_len l.bytes)
    × (l.end ≤ 67108864)
    × (l.trace.run ≡ l.initial.trace.run)
    × (l.trace.reading
    ≡ record { name = l.initial.trace.reading.name; bytes = take l.end l.bytes.items })
