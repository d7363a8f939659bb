use Rattle.std.proofs.Common.{rules, Option, ap, ◌∙◌, arith}
use Rattle.histories.proofs.ByKeyLemmas.{kept-or, room-kept, by_key-written}
use Rattle.histories.specs.{Sums.Sums, Tally.sums_of_tally, declared.sums.tally.Tally.Tally}
use Rattle.indexmap.specs.Entry.{map_with_value}
use Rattle.std.specs.{HashMap.get, Option.unwrap_or}
use Rattle.histories.proofs.sums.by_key.add_entry.Goals as goal

pub add-requires : goal.add-requires
add-requires g c =
    let room = room-kept g.K.PartialEq.eq g.K.SumKey.key_of c.args.tallies.now.entries c.of.result _
    1 c.requires
    (ap (λ (s : Sums). s.taps)
    (kept-or sums_of_tally (get g.K.PartialEq.eq c.args.tallies.now c.of.result) c.new.result
    c.or_insert-kept.result.now
    (c.or_insert-kept.ensures.value
    ∙ ap (λ (kept : Option Tally). unwrap_or kept c.new.result) c.in_ok-tallies.ensures.value)
    c.new.ensures)) in
    omega (arith, room)

pub returns : goal.returns
returns g c = λ before by_key.
    by_key-written g.met.K.Eq.laws g.met.K.SumKey.same g.K.SumKey.key_of before c.args.entry.now
    c.of.result c.args.tallies.now
    (map_with_value c.in_ok-tallies.field-0 c.add.new.self) _ c.or_insert-kept.result.now
    c.new.result c.add.new.self c.reply.result
    c.of.ensures (search rules) (c.in_ok-tallies.ensures.update.0 c.add.new.self)
    (c.or_insert-kept.ensures.value
    ∙ ap (λ (kept : Option Tally). unwrap_or kept c.new.result) c.in_ok-tallies.ensures.value)
    c.new.ensures c.reply.ensures c.add.ensures by_key
