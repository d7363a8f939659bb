use Rattle.std.proofs.Common.{◌++◌, take, List, subst, arith}
use Rattle.histories.specs.{TalliesByKey.AreByKey, TalliesByKey.MapHasRoom}
use Rattle.histories.specs.declared.entry.Entry.{Entry}
use Rattle.shard_book.proofs.HistoryLemmas.{grown-read}
use Rattle.std.proofs.lemmas.List.{length-append, length-take-le}
use Rattle.shard_book.proofs.sums.by_key.add_entries.Goals as goal

pub add_entry-requires : goal.add_entry-requires
unfolding MapHasRoom
add_entry-requires g c = (
  c.requires.0 ++ take c.loop-i.i c.args.book.now.entries,
  c.loop-i.invariant c.requires.0 c.requires.1,
  omega (
    arith,
    length-append c.requires.0 (take c.loop-i.i c.args.book.now.entries),
    length-take-le c.loop-i.i c.args.book.now.entries (omega arith),
    c.requires.2,
  ),
)

pub loop-i-preserved : goal.loop-i-preserved
loop-i-preserved g c = λ before by_key.
    subst (λ (entries : List Entry). AreByKey g.K.PartialEq.eq g.K.SumKey.key_of entries
    c.add_entry.new.tallies.entries)
    (grown-read before c.args.book.now.entries c.loop-i.i c.entry-entry.result
    c.entry-entry.ensures)
    (c.in_ok-add_entry.ensures (before ++ take c.loop-i.i c.args.book.now.entries)
    (c.loop-i.invariant before by_key))
