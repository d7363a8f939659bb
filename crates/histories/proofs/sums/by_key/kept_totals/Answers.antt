use Rattle.std.proofs.Common.{Option, ap, arith}
use Rattle.histories.proofs.ByKeyLemmas.{room-kept}
use Rattle.histories.specs.{Positions.all_of, TalliesByKey.kept_sums}
use Rattle.histories.specs.declared.sums.tally.Tally.{Tally}
use Rattle.histories.proofs.sums.by_key.kept_totals.Goals as goal

pub totals-requires : goal.totals-requires
totals-requires g c =
    omega (
      arith,
      room-kept g.K.PartialEq.eq g.K.SumKey.key_of c.args.tallies.now.entries c.args.key
          (all_of c.in-Some.kept.now.counts) 0 c.requires
          (ap (λ (kept : Option Tally). (kept_sums kept).taps) c.in-Some.ensures.value),
    )
