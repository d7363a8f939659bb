use Rattle.std.proofs.Common.{◌≡◌}
use Rattle.shared_books.specs.inside.SeatStates.{SeesMore}
use Rattle.shared_books.proofs.turns.SharedBook.wait_and_take.Given as goal

abbrev pub invariant-loop : goal.invariant-loop
invariant-loop g l = record {
  home : l.seat.table_id ≡ l.fn.seat.table_id;
  goes_on : SeesMore l.fn.seat.me l.seat.me;
}
