use Rattle.std.proofs.Common.{◌++◌, List, take}
use Rattle.histories.specs.declared.entry.Entry.{Entry}
use Rattle.shard_book.specs.inside.Late.{AreStale}
use Rattle.shard_book.proofs.late.add_stale.Given as goal

abbrev pub invariant-loop-i : goal.invariant-loop-i
invariant-loop-i l =
    (before : List Entry) → AreStale before l.initial.keys.keys
    → AreStale (before ++ take l.i l.book.entries) l.keys.keys
