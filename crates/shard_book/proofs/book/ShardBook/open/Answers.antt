use Rattle.histories.proofs.Histories.{legal-none}
use Rattle.shard_book.proofs.SoundLemmas.{book-none}
use Rattle.shard_book.proofs.book.ShardBook.open.Goals as goal

pub invariant_of-result : goal.invariant_of-result
invariant_of-result c =
    book-none c.new-2.ensures.items c.requires.shard c.requires.shards c.new.ensures.kept
    c.new.ensures.further

pub returns-clause-legal : goal.returns-clause-legal
returns-clause-legal c = rw c.new-2.ensures.items (legal-none c.args.table)
