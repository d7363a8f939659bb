use Rattle.std.proofs.Common.{◌≡◌, ◌+◌, ◌++◌, List, take}
use Rattle.histories.specs.declared.entry.Entry.{Entry}
use Rattle.shard_book.specs.{Late.late_after, inside.Late.AreLeft}
use Rattle.shard_book.proofs.late.count_late.Given as goal

abbrev pub invariant-loop-i : goal.invariant-loop-i
invariant-loop-i l =
    (before after : List Entry)
    → AreLeft (before ++ l.book.entries ++ after) before l.initial.keys.keys
    → AreLeft (before ++ l.book.entries ++ after) (before ++ take l.i l.book.entries) l.keys.keys
    × (l.total ≡ l.initial.total + late_after before (take l.i l.book.entries))
