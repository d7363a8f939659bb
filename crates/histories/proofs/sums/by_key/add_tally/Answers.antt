use Rattle.std.proofs.Common.{rules, Option, ap, ◌∙◌, arith}
use Rattle.histories.proofs.{ByKeyLemmas.kept-or, MergeLemmas.tally-written}
use Rattle.histories.specs.{Sums.Sums, Tally.sums_of_tally, declared.sums.tally.Tally.Tally}
use Rattle.indexmap.specs.Entry.{map_with_value}
use Rattle.std.specs.{HashMap.get, Option.unwrap_or}
use Rattle.histories.proofs.sums.by_key.add_tally.Goals as goal

pub add_all-requires : goal.add_all-requires
add_all-requires g c =
    omega (
      arith,
      ap (λ (s : Sums). s.taps)
          (kept-or sums_of_tally (get g.K.PartialEq.eq c.args.tallies.now c.args.key) c.new.result
          c.or_insert-kept.result.now
          (c.or_insert-kept.ensures.value
          ∙ ap (λ (kept : Option Tally). unwrap_or kept c.new.result) c.in_ok-tallies.ensures.value)
          c.new.ensures),
      c.requires,
    )

pub returns : goal.returns
returns g c =
    tally-written g.K.PartialEq.eq c.args.key c.args.tallies.now
    (map_with_value c.in_ok-tallies.field-0 c.add_all.new.self) _ c.or_insert-kept.result.now
    c.new.result c.add_all.new.self c.args.tally.now
    (search rules) (c.in_ok-tallies.ensures.update.0 c.add_all.new.self)
    (c.or_insert-kept.ensures.value
    ∙ ap (λ (kept : Option Tally). unwrap_or kept c.new.result) c.in_ok-tallies.ensures.value)
    c.new.ensures c.add_all.ensures
