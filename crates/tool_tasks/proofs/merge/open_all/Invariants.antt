use Rattle.std.proofs.Common.{◌≡◌, map, take}
use Rattle.std.specs.Prelude.{All}
use Rattle.recorded_lines.specs.Texts.{IsFresh, calls_of}
use Rattle.frame.specs.Names.{file_named}
use Rattle.tool_tasks.specs.inside.Merge.{names_of}
use Rattle.tool_tasks.proofs.merge.open_all.Given as goal

-- so far these parts were opened
abbrev pub invariant-loop-word : goal.invariant-loop-word
invariant-loop-word g l = record {
  fresh : All IsFresh l.parts.items;
  named : names_of (map calls_of l.parts.items)
      ≡ map file_named (map (λ w. w.now) (take l.word-index l.words));
  unchanged : g.F.Streams.readings l.files ≡ g.F.Streams.readings l.fn.files;
}
