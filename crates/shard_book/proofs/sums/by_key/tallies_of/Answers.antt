use Rattle.std.proofs.Common.{◌≤◌, ◌*◌, ◌^◌, length, take, arith}
use Rattle.shard_book.specs.Book.{all_entries}
use Rattle.histories.specs.TalliesByKey.{MapHasRoom}
use Rattle.histories.proofs.ByKeyLemmas.{by_key-none}
use Rattle.shard_book.proofs.sums.by_key.tallies_of.Goals as goal

pub loop-book-init : goal.loop-book-init
loop-book-init g c = (by_key-none _ _ _ c.with_hasher-tallies.ensures.empty, omega arith)

pub add_entries-requires : goal.add_entries-requires
unfolding MapHasRoom
add_entries-requires g c =
    let before = take c.loop-book.book-index c.args.books.now in
    let bound : length (all_entries before) ≤ c.loop-book.book-index * 2 ^ 64 =
    c.loop-book.invariant.1 in
    let most : length c.args.books.now ≤ 64 = c.requires in
    (all_entries before, c.loop-book.invariant.0, omega (arith, c.len.ensures.len))
