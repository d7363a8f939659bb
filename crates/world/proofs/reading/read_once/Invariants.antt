use Rattle.std.proofs.Common.{◌≡◌, take, vec_len}
use Rattle.world.proofs.reading.read_once.Given as goal

abbrev pub invariant-loop : goal.invariant-loop
invariant-loop l =
    (take l.fn.from l.room.items ≡ take l.fn.from l.initial.room.items)
    × (vec_len l.room ≡ vec_len l.initial.room)
