use Rattle.std.proofs.Common.{◌≡◌, ℕ, ◌<◌, ◌++◌, length, get_or, []}
use Rattle.std.specs.Vec.Iter.{into_iter_items, into_iter_len}
use Rattle.settlement.specs.inside.Taken.{in_part}
use Rattle.settlement.proofs.pieces.pieces_of.Given as goal

abbrev pub invariant-loop-list : goal.invariant-loop-list
invariant-loop-list l = record {
  may : (goal.iterator-loop-list).can_next l.list-iterator;
  ends : (goal.iterator-loop-list).is_finite l.list-iterator;
  left : l.yielded ++ into_iter_items l.list-iterator ≡ l.fn.lists.items;
  left_len : into_iter_len l.list-iterator ≡ length (into_iter_items l.list-iterator);
  number : length l.made.items ≡ l.fn.parts;
  each : (part : ℕ) → part < l.fn.parts → get_or l.made.items part [] ≡ in_part part l.yielded;
}
