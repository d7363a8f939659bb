use Rattle.std.proofs.Common.{◌≡◌, ◌++◌, length, map}
use Rattle.std.specs.{List.AllZip, Vec.Iter.into_iter_items, Vec.Iter.into_iter_len}
use Rattle.tap_parts.specs.Canonical.{IsCanonical}
use Rattle.settlement.proofs.part_lists.lists_of.Given as goal

abbrev pub invariant-loop-pieces : goal.invariant-loop-pieces
invariant-loop-pieces l = record {
  may : (goal.iterator-loop-pieces).can_next l.pieces-iterator;
  ends : (goal.iterator-loop-pieces).is_finite l.pieces-iterator;
  left : l.yielded ++ into_iter_items l.pieces-iterator ≡ l.fn.parts.items;
  left_len : into_iter_len l.pieces-iterator ≡ length (into_iter_items l.pieces-iterator);
  lists : AllZip IsCanonical l.yielded (map (λ list. list.items) l.lists.items);
}
