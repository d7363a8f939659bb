use Rattle.std.proofs.Common.{rules, ◌≡◌, ℕ, ◌+◌, ◌<◌, ◌≤◌, List, [], map, take, sym, ap, subst}
use Rattle.std.proofs.Common.{◌∙◌, arith}
use Rattle.histories.specs.{Counts.token_counts, Sums.Sums, declared.entry.Entry.Entry}
use Rattle.shard_book.proofs.SummedLemmas.{summed-none, summed-no_books, summed-more}
use Rattle.shard_book.specs.{Book.all_entries, inside.Counting.AreSummed, inside.Counting.AreBelow}
use Rattle.std.proofs.lemmas.List.Elements.{All-nil}
use Rattle.std.specs.Option.{option_copied}
use Rattle.tap_views.specs.{Shards.shard_of_token, Token.bytes_of, declared.token.Token.Token}
use Rattle.shard_book.proofs.sums.by_token.collected.Goals as goal

pub loop-book-init : goal.loop-book-init
loop-book-init c = (
  subst (λ (pairs : List (Token × Sums)). AreSummed [] pairs)
      (sym (ap (map token_counts) c.new-list.ensures.items)) summed-none,
  record {
    each = All-nil
        (λ (entry : Entry). shard_of_token (bytes_of entry.token) c.shards-shards.result < 0);
  },
)

pub returns-in_default : goal.returns-in_default
returns-in_default c =
    summed-no_books c.args.books.now c.new-list.result.items c.new-list.ensures.items
    (ap option_copied (sym c.in_default.is) ∙ c.first.ensures.value)

pub loop-book-preserved : goal.loop-book-preserved
loop-book-preserved c =
    let book = c.book-item.result in
    let same : book.shards ≡ c.shards-shards.result = omega (arith, c.shards.ensures.shards) in
    let from : c.loop-book.lowest ≤ book.shard = omega (arith, c.shard.ensures.shard) in
    let grown = summed-more c.args.books.now c.loop-book.book-index book book c.shards-shards.result
    c.loop-book.lowest _ _ c.loop-book-test.true c.book-item.is same from
    c.in_ok-push_counts.ensures.here (c.in_ok-push_counts.ensures.sums (search rules))
    c.loop-book.invariant.0 c.loop-book.invariant.1 in (
      grown.0,
      subst (λ (shard : ℕ). AreBelow c.shards-shards.result (shard + 1)
          (all_entries (take (c.loop-book.book-index + 1) c.args.books.now)))
          (sym c.shard-lowest.ensures.shard) grown.1,
    )
