use Rattle.std.proofs.Common.{◌++◌, take, List, subst}
use Rattle.histories.specs.declared.entry.Entry.{Entry}
use Rattle.shard_book.specs.inside.Late.{AreStale}
use Rattle.shard_book.proofs.HistoryLemmas.{grown-read}
use Rattle.shard_book.proofs.late.add_stale.Goals as goal

pub loop-i-preserved : goal.loop-i-preserved
loop-i-preserved c = λ before kept.
    subst (λ (entries : List Entry). AreStale entries c.add_if_stale.new.keys.keys)
    (grown-read before c.args.book.now.entries c.loop-i.i c.entry-entry.result
    c.entry-entry.ensures)
    (c.in_ok-add_if_stale.ensures (before ++ take c.loop-i.i c.args.book.now.entries)
    (c.loop-i.invariant before kept))
