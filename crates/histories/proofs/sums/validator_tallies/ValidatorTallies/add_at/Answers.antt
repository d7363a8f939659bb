use Rattle.std.proofs.Common.{◌==◌, refl, sym, ap, subst, ◌∙◌, arith}
use Rattle.histories.proofs.TalliedLemmas.{kept-at, tallied-small, value-as-was}
use Rattle.histories.specs.TalliesByKey.{AreTallied, Tallies}
use Rattle.indexmap.proofs.CallerLemmas.{updates-with_value_at}
use Rattle.indexmap.specs.IndexMap.{with_value_at}
use Rattle.std.proofs.lemmas.Cmp.{nat_eq_equiv}
use Rattle.std.specs.HashMap.{get}
use Rattle.histories.proofs.sums.validator_tallies.ValidatorTallies.add_at.Goals as goal

pub returns-clause-added : goal.returns-clause-added
returns-clause-added c = λ had_room before tallied.
    let (counts, at, found) = c.is_at.ensures (grind arith) in
    tallied-small before c.args.entry.now c.self.inside.small
    (with_value_at c.self.inside.small c.args.position c.add.new.self) _ c.self.inside.wide.entries
    c.pair_mut-kept.result.1.now c.add.new.self c.reply.result refl
    (updates-with_value_at c.self.inside.small c.args.position c.add.new.self nat_eq_equiv
    c.pair_mut-kept.ensures.unique c.args.entry.now.validator counts at)
    (kept-at c.self.inside.small.entries c.args.position c.args.entry.now.validator
    c.pair_mut-kept.result.0.now counts c.pair_mut-kept.result.1.now
    (get ◌==◌ c.self.inside.small c.args.entry.now.validator) at c.pair_mut-kept.ensures.value found)
    c.reply.ensures (c.add.ensures.added had_room)
    (subst (λ (t : Tallies). AreTallied before t) (sym c.self.view_is) tallied)

pub returns-clause-unchanged : goal.returns-clause-unchanged
returns-clause-unchanged c = λ had_none.
    ap (λ es. record { small = es; wide = c.self.inside.wide.entries })
    (value-as-was c.self.inside.small.entries c.args.position c.pair_mut-kept.result.0.now
    c.pair_mut-kept.result.1.now c.add.new.self c.pair_mut-kept.ensures.value
    (c.add.ensures.unchanged had_none))
    ∙ c.self.view_is
