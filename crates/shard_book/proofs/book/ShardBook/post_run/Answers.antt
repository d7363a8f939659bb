use Rattle.shard_book.proofs.RunLemmas.{posts-empty}
use Rattle.shard_book.proofs.book.ShardBook.post_run.Goals as goal

pub returns-then-is_empty-clause-posts : goal.returns-then-is_empty-clause-posts
returns-then-is_empty-clause-posts c =
    posts-empty c.args.run.now c.args.self.now c.args.out.now
    (c.is_empty.ensures.0 c.if-is_empty.true)
