use Rattle.std.proofs.Common.{◌≡◌, ◌+◌, ◌++◌, take, List, subst, arith}
use Rattle.histories.specs.declared.entry.Entry.{Entry}
use Rattle.shard_book.proofs.LateLemmas.{count-more}
use Rattle.shard_book.specs.{Late.late_after, inside.Late.AreLeft}
use Rattle.std.proofs.lemmas.List.{take_all}
use Rattle.std.specs.Prelude.{if◌then◌else◌}
use Rattle.shard_book.proofs.late.count_late.Goals as goal

pub loop-i-preserved : goal.loop-i-preserved
loop-i-preserved c = λ before after left.
    let entries = c.args.book.now.entries in
    let was = c.loop-i.invariant before after left in
    let more = count-more before entries after c.loop-i.i c.entry-entry.result
    c.loop-i.keys.keys c.take_late-is_late.new.keys.keys c.take_late-is_late.result
    c.entry-entry.ensures was.0 c.take_late-is_late.ensures.late
    c.take_late-is_late.ensures.taken in
    let sum : c.in_ok-total.total
    ≡ c.loop-i.total + (if c.take_late-is_late.result then 1 else 0) = c.in_ok-total.ensures in
    let counted : c.loop-i.total ≡ c.args.count + late_after before (take c.loop-i.i entries) =
    was.1 in
    let grown : late_after before (take (c.loop-i.i + 1) entries)
    ≡ late_after before (take c.loop-i.i entries)
    + (if c.take_late-is_late.result then 1 else 0) = more.1 in
    (more.0, omega arith)

pub returns : goal.returns
returns c = λ before after left.
    let entries = c.args.book.now.entries in
    subst (λ (es : List Entry).
    AreLeft (before ++ entries ++ after) (before ++ es) c.loop-i.keys.keys
    × (c.loop-i.total ≡ c.args.count + late_after before es))
    (take_all c.loop-i.i entries (omega (arith, c.len-i-end.ensures.len)))
    (c.loop-i.invariant before after left)
