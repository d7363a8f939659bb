use Rattle.std.proofs.Common.{◌++◌, take, List, subst, arith}
use Rattle.histories.specs.{TalliesByKey.AreTallied, TalliesByKey.HasRoom}
use Rattle.histories.specs.declared.entry.Entry.{Entry}
use Rattle.shard_book.proofs.HistoryLemmas.{grown-read}
use Rattle.std.proofs.lemmas.List.{length-append, length-take-le}
use Rattle.shard_book.proofs.sums.by_hints.add_book.Goals as goal

pub add-requires : goal.add-requires
unfolding HasRoom
add-requires c = (
  c.requires.0 ++ take c.loop-i.i c.args.book.now.entries,
  c.loop-i.invariant c.requires.0 c.requires.1,
  omega (
    arith,
    length-append c.requires.0 (take c.loop-i.i c.args.book.now.entries),
    length-take-le c.loop-i.i c.args.book.now.entries (omega arith),
    c.requires.2,
  ),
)

pub loop-i-preserved : goal.loop-i-preserved
loop-i-preserved c = λ before tallied.
    subst (λ (entries : List Entry). AreTallied entries c.add.new.self)
    (grown-read before c.args.book.now.entries c.loop-i.i c.entry-entry.result
    c.entry-entry.ensures)
    (c.in_ok-add.ensures (before ++ take c.loop-i.i c.args.book.now.entries)
    (c.loop-i.invariant before tallied))
