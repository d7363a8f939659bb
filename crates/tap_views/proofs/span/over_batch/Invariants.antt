use Rattle.std.proofs.Common.{ℕ, List, ◌≡◌, ◌++◌, map}
use Rattle.tap_views.specs.Facts.{IsSpan, moment_of}
use Rattle.tap_views.proofs.span.over_batch.Given as goal

abbrev pub invariant-loop-tap : goal.invariant-loop-tap
invariant-loop-tap l = record {
  may : (goal.iterator-loop-tap).can_next l.tap-iterator;
  ends : (goal.iterator-loop-tap).is_finite l.tap-iterator;
  all : l.yielded ++ l.tap-iterator ≡ l.batch;
  wide : (moments : List ℕ) → IsSpan moments l.fn.span
      → IsSpan (moments ++ map moment_of l.yielded) l.wide;
}
