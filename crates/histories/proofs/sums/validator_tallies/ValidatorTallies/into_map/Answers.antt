use Rattle.std.proofs.Common.{sym, subst, arith}
use Rattle.histories.proofs.TalliedLemmas.{tallied-map, tallied-room}
use Rattle.histories.specs.TalliesByKey.{AreTallied, Tallies}
use Rattle.histories.proofs.sums.validator_tallies.ValidatorTallies.into_map.Goals as goal

pub add_tallies-requires : goal.add_tallies-requires
add_tallies-requires c = λ key.
    let room = tallied-room (record {
      small = c.self.inside.small.entries;
      wide = c.self.inside.wide.entries;
    }) c.args.self 0 key c.self.view_is c.requires in
    omega (arith, room)

pub returns : goal.returns
returns c = λ entries tallied.
    tallied-map (record {
      small = c.self.inside.small.entries;
      wide = c.self.inside.wide.entries;
    }) c.add_tallies.new.tallies.entries entries c.in_ok-add_tallies.ensures
    (subst (λ (t : Tallies). AreTallied entries t) (sym c.self.view_is) tallied)
