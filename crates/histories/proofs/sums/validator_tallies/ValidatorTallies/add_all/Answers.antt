use Rattle.std.proofs.Common.{sym, ap, subst, arith}
use Rattle.histories.proofs.TalliedLemmas.{both-room, tallied-append}
use Rattle.histories.specs.{Sums.Sums, TalliesByKey.AreTallied, TalliesByKey.Tallies}
use Rattle.histories.proofs.sums.validator_tallies.ValidatorTallies.add_all.Goals as goal

pub add_tallies-requires : goal.add_tallies-requires
add_tallies-requires c = λ key.
    let room = both-room (record {
      small = c.self.inside.small.entries;
      wide = c.self.inside.wide.entries;
    }) (record { small = c.more.inside.small.entries; wide = c.more.inside.wide.entries })
    c.args.self.now c.args.more.now key c.self.view_is c.more.view_is c.requires in
    omega (arith, room)

pub add_tallies-requires-2 : goal.add_tallies-requires-2
add_tallies-requires-2 c = λ key.
    let room = both-room (record {
      small = c.self.inside.small.entries;
      wide = c.self.inside.wide.entries;
    }) (record { small = c.more.inside.small.entries; wide = c.more.inside.wide.entries })
    c.args.self.now c.args.more.now key c.self.view_is c.more.view_is c.requires in
    let taps = ap (λ (s : Sums). s.taps) (c.in_ok-add_tallies.ensures.sums key) in
    omega (arith, room, taps)

pub returns : goal.returns
returns c = λ before after front back.
    tallied-append (record {
      small = c.self.inside.small.entries;
      wide = c.self.inside.wide.entries;
    }) (record { small = c.more.inside.small.entries; wide = c.more.inside.wide.entries })
    c.add_tallies.new.tallies.entries c.add_tallies-2.new.tallies.entries before after
    c.in_ok-add_tallies.ensures c.in_ok-add_tallies-2.ensures
    (subst (λ (t : Tallies). AreTallied before t) (sym c.self.view_is) front)
    (subst (λ (t : Tallies). AreTallied after t) (sym c.more.view_is) back)
