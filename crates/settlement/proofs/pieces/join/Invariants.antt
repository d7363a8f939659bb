use Rattle.std.proofs.Common.{◌≡◌, ℕ, ◌<◌, ◌≤◌, ◌++◌, length, get_or, map, []}
use Rattle.std.specs.Vec.Iter.{into_iter_items, into_iter_len}
use Rattle.settlement.proofs.pieces.join.Given as goal

abbrev pub invariant-loop-piece : goal.invariant-loop-piece
invariant-loop-piece l = record {
  may : (goal.iterator-loop-piece).can_next l.piece-iterator;
  ends : (goal.iterator-loop-piece).is_finite l.piece-iterator;
  left : l.yielded ++ into_iter_items l.piece-iterator ≡ l.fn.lists.items;
  left_len : into_iter_len l.piece-iterator ≡ length (into_iter_items l.piece-iterator);
  position : l.position ≡ length l.yielded;
  number : length l.parts ≡ length l.fn.parts;
  joined : (part : ℕ) → part < l.position
      → get_or l.parts part []
      ≡ get_or l.fn.parts part [] ++ get_or (map (λ list. list.items) l.yielded) part [];
  rest : (part : ℕ) → l.position ≤ part → get_or l.parts part [] ≡ get_or l.fn.parts part [];
}
