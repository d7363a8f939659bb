use Rattle.std.proofs.Common.{◌≡◌, ◌++◌, take}
use Rattle.fare_service.specs.inside.Spots.{entries_at_spots}
use Rattle.fare_service.proofs.entries.push_book.Given as goal

abbrev pub invariant-loop-position : goal.invariant-loop-position
invariant-loop-position l =
    entries_at_spots l.books l.list.items
    ≡ entries_at_spots l.books l.fn.list.items ++ take l.position l.book.entries
