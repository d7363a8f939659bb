use Rattle.std.proofs.Common.{◌≤◌, ◌*◌, ◌^◌, length, sym, ap, ◌∙◌, arith}
use Rattle.std.specs.Option.{option_copied}
use Rattle.shard_book.specs.Book.{all_entries}
use Rattle.histories.specs.TalliesByKey.{HasRoom}
use Rattle.shard_book.proofs.BookSums.{validators-none}
use Rattle.shard_book.proofs.sums.sums_by_validator.Goals as goal

pub sums-requires : goal.sums-requires
unfolding HasRoom
sums-requires g c =
    let bound : length (all_entries c.args.books.now) ≤ length c.args.books.now * 2 ^ 64 =
    c.in_ok-tallies.ensures.few in
    let most : length c.args.books.now ≤ 64 = c.requires in
    (all_entries c.args.books.now, c.in_ok-tallies.ensures.tallied, omega arith)

pub returns-in_default : goal.returns-in_default
returns-in_default g c =
    validators-none c.args.books.now _ c.new.ensures.items
    (ap option_copied (sym c.in_default.is) ∙ c.first.ensures.value)
