use Rattle.std.proofs.Common.{◌≡◌, ◌+◌, ◌≤◌, ◌++◌, List, ℕ, [], length, take, vec_len}
use Rattle.settlement.proofs.Passed.{ArePassed}
use Rattle.world.specs.Origins.{Origin}
use Rattle.settlement.proofs.upload.read_upload.Given as goal

abbrev pub invariant-loop : goal.invariant-loop
invariant-loop g l = record {
  len : l.have ≤ vec_len l.room;
  short : l.passed + l.have ≤ 67108864;
  calls : l.calls ≡ l.initial.calls;
  bytes : List ℕ;
  number : length bytes ≡ l.passed;
  passed : ArePassed (g.C.Choice.keeps l.choice) l.initial.kept l.kept bytes l.taps;
  read : (origin : Origin) → g.O.Reading.has_read l.fn.opened origin []
      → g.O.Reading.has_read l.opened origin (bytes ++ take l.have l.room.items);
}
