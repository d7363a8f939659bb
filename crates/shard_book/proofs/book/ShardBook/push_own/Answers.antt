use Rattle.std.proofs.Common.{sym, append-nil}
use Rattle.histories.specs.Entry.{own}
use Rattle.shard_book.proofs.HistoryLemmas.{own-read}
use Rattle.shard_book.proofs.book.ShardBook.push_own.Goals as goal

pub loop-i-init : goal.loop-i-init
unfolding own
loop-i-init c = sym (append-nil c.args.list.now.items)

pub loop-i-preserved : goal.loop-i-preserved
loop-i-preserved c =
    own-read c.args.list.now.items c.args.self.now.entries _ _ c.args.token c.loop-i.i
    c.entry.result c.entry.ensures c.loop-i.invariant c.in_ok-push_if_own.ensures
