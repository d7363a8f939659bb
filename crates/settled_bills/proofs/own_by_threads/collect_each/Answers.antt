-- Each place has what its own call left.
use Rattle.std.proofs.Common.{map, subst, ◌∙◌, arith}
use Rattle.std.proofs.lemmas.Option.{get_or_from_slice_get, slice_get_within}
use Rattle.settled_bills.specs.inside.OwnTaps.{IsOwnAt}
use Rattle.settled_bills.proofs.own_by_threads.collect_each.Goals as goal

pub returns-clause-each : goal.returns-clause-each
returns-clause-each g c = λ position own there.
    let inside = slice_get_within c.for_each_mut.new.s position own there in
    let long = c.for_each_mut.auto.s in
    let at = (c.for_each_mut.ensures position own (omega (arith, inside, long))).1 in
    let left = at.left ∙ get_or_from_slice_get c.for_each_mut.new.s position own own there in
    subst (IsOwnAt c.args.token (map g.F.Placed.bytes c.args.files.now) position) left at.call
