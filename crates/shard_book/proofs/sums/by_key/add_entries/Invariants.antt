use Rattle.std.proofs.Common.{List, ◌++◌, take}
use Rattle.histories.specs.{TalliesByKey.AreByKey, declared.entry.Entry.Entry}
use Rattle.shard_book.proofs.sums.by_key.add_entries.Given as goal

abbrev pub invariant-loop-i : goal.invariant-loop-i
invariant-loop-i g l =
    (before : List Entry)
    → AreByKey g.K.PartialEq.eq g.K.SumKey.key_of before l.initial.tallies.entries
    → AreByKey g.K.PartialEq.eq g.K.SumKey.key_of (before ++ take l.i l.book.entries)
    l.tallies.entries
