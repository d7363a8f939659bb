use Rattle.std.proofs.Common.{◌≡◌, ◌++◌, map}
use Rattle.recorded_lines.specs.Texts.{calls_of}
use Rattle.tool_tasks.proofs.merge.close_all.Given as goal

abbrev pub invariant-loop-part : goal.invariant-loop-part
invariant-loop-part g l = record {
  may : (goal.iterator-loop-part g).can_next l.part-iterator;
  ends : (goal.iterator-loop-part g).is_finite l.part-iterator;
  read : g.F.Streams.readings l.files ++ map calls_of l.part-iterator.rest.items
      ≡ g.F.Streams.readings l.fn.files ++ map calls_of l.fn.parts.items;
}
