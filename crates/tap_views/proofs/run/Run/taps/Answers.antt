use Rattle.std.proofs.Common.{arith}
use Rattle.tap_views.proofs.{Cuts.length-cut, RunLemmas.own_taps, RunLemmas.few_taps}
use Rattle.tap_views.proofs.Sorted.{kept_left, kept_below}
use Rattle.tap_views.specs.Faults.{width}
use Rattle.tap_views.specs.inside.Records.{layout_of, tap_at, taps_in}
use Rattle.tap_views.proofs.run.Run.taps.Goals as goal

pub invariant_of-result-2 : goal.invariant_of-result-2
invariant_of-result-2 c =
    let taps = taps_in (layout_of c.self.inside.shared) c.self.inside.count
    c.self.inside.records.now in (
      c.self.invariant.1,
      c.self.invariant.2,
      kept_below c.self.inside.positions c.self.inside.shard c.self.inside.shards taps
          c.self.invariant.3,
    )

pub returns-clause-taps : goal.returns-clause-taps
returns-clause-taps c =
    let taps = taps_in (layout_of c.self.inside.shared) c.self.inside.count
    c.self.inside.records.now in
    rw (← c.self.view_is)
    (kept_left c.self.inside.positions c.self.inside.shard c.self.inside.shards taps
    c.self.invariant.3)

pub returns-clause-in_shard : goal.returns-clause-in_shard
returns-clause-in_shard c =
    let taps = taps_in (layout_of c.self.inside.shared) c.self.inside.count
    c.self.inside.records.now in
    rw (returns-clause-taps c, ← c.self.view_is)
    (own_taps c.self.inside.shard c.self.inside.shards taps c.self.invariant.0.each)

pub returns-clause-most : goal.returns-clause-most
returns-clause-most c =
    let layout = layout_of c.self.inside.shared in
    let bytes = c.self.inside.records.now in
    let taps = taps_in layout c.self.inside.count bytes in
    rw (returns-clause-taps c, ← c.self.view_is)
    (omega (
      arith,
      few_taps c.self.inside.shard c.self.inside.shards taps,
      length-cut (width layout) (tap_at layout) c.self.inside.count bytes,
      c.self.invariant.0.most,
    ))
