use Rattle.std.proofs.Common.{List, ◌++◌, take}
use Rattle.histories.specs.{TalliesByKey.AreTallied, declared.entry.Entry.Entry}
use Rattle.shard_book.proofs.sums.by_hints.add_book.Given as goal

abbrev pub invariant-loop-i : goal.invariant-loop-i
invariant-loop-i l = (before : List Entry) → AreTallied before l.initial.tallies
    → AreTallied (before ++ take l.i l.book.entries) l.tallies
