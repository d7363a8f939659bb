use Rattle.std.proofs.Common.{map}
use Rattle.histories.specs.Counts.{token_counts}
use Rattle.shard_book.specs.Book.{all_entries}
use Rattle.shard_book.proofs.SummedLemmas.{summed-sorted}
use Rattle.shard_book.proofs.sums.by_token.increasing_counts.Goals as goal

pub returns : goal.returns
returns c = summed-sorted (all_entries c.args.books.now) (map token_counts c.in-Some.list.items) _
    (rw c.in-Some.is at c.in_ok-list.ensures) c.sort.ensures.permutation c.sort.ensures.sorted
