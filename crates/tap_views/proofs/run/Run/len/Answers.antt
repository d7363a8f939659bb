use Rattle.std.proofs.Common.{◌≡◌, length, arith}
use Rattle.tap_views.proofs.{Cuts.length-cut, RunLemmas.few_taps, Sorted.kept_count}
use Rattle.tap_views.specs.Faults.{width}
use Rattle.tap_views.specs.inside.Records.{layout_of, tap_at, taps_in}
use Rattle.tap_views.proofs.run.Run.len.Goals as goal

pub returns-in-Some-clause-number : goal.returns-in-Some-clause-number
returns-in-Some-clause-number c =
    let taps = taps_in (layout_of c.self.inside.shared) c.self.inside.count
    c.self.inside.records.now in
    rw (← c.self.view_is)
    (kept_count c.self.inside.positions c.in-Some.positions c.self.inside.shard c.self.inside.shards
    taps c.in-Some.is c.self.invariant.3)

pub returns-in-Some-clause-most : goal.returns-in-Some-clause-most
returns-in-Some-clause-most c =
    let layout = layout_of c.self.inside.shared in
    let bytes = c.self.inside.records.now in
    let taps = taps_in layout c.self.inside.count bytes in
    let number : length c.in-Some.positions.now ≡ _
    = kept_count c.self.inside.positions c.in-Some.positions c.self.inside.shard
    c.self.inside.shards taps
    c.in-Some.is c.self.invariant.3 in
    omega (
      arith,
      number,
      few_taps c.self.inside.shard c.self.inside.shards taps,
      length-cut (width layout) (tap_at layout) c.self.inside.count bytes,
      c.self.invariant.0.most,
    )

pub overflow_cast-result : goal.overflow_cast-result
overflow_cast-result c =
    let layout = layout_of c.self.inside.shared in
    let bytes = c.self.inside.records.now in
    let taps = taps_in layout c.self.inside.count bytes in
    let number : length c.in-Some.positions.now ≡ _
    = kept_count c.self.inside.positions c.in-Some.positions c.self.inside.shard
    c.self.inside.shards taps
    c.in-Some.is c.self.invariant.3 in
    omega (
      arith,
      number,
      few_taps c.self.inside.shard c.self.inside.shards taps,
      length-cut (width layout) (tap_at layout) c.self.inside.count bytes,
      c.self.invariant.0.most,
    )
