use Rattle.shard_book.proofs.RunLemmas.{IsPosting}
use Rattle.shard_book.proofs.book.ShardBook.post_taps.Given as goal

abbrev pub invariant-loop-tap : goal.invariant-loop-tap
invariant-loop-tap l =
    IsPosting l.run l.yielded l.tap-iterator l.posted l.initial.self l.self l.initial.out l.out
