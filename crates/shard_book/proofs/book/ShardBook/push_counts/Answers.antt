use Rattle.std.proofs.Common.{rules, subst}
use Rattle.shard_book.specs.Book.{Book, AreOfShard}
use Rattle.shard_book.specs.inside.{Accounts.pairs_of, Counting.AreSummed}
use Rattle.shard_book.proofs.book.ShardBook.push_counts.Goals as goal

pub returns-clause-sums : goal.returns-clause-sums
returns-clause-sums c = λ _.
    let pairs = pairs_of c.self.inside.accounts in
    record {
      added = pairs;
      summed = subst (λ (book : Book). AreSummed book.entries pairs) c.self.view_is
          (c.push_counts.ensures.summed _
          (c.self.invariant.sound.counted (c.is_counting.ensures (search rules))));
      appended = c.in_ok-push_counts.ensures.list;
    }

pub returns-clause-here : goal.returns-clause-here
returns-clause-here c =
    subst (λ (book : Book). AreOfShard book.shard book.shards book.entries) c.self.view_is
    c.self.invariant.sound.here
