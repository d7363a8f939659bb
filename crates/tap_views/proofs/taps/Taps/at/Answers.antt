use Rattle.std.proofs.Common.{◌<◌, ap, length, arith}
use Rattle.tap_views.proofs.Cuts.{all-cut, length-cut, room, slice_get-cut}
use Rattle.tap_views.specs.{Faults.width, Layout.IsTap}
use Rattle.tap_views.specs.inside.Records.{layout_of, tap_at}
use Rattle.tap_views.proofs.taps.Taps.at.Goals as goal

pub record_at-requires : goal.record_at-requires
record_at-requires c =
    let layout = layout_of c.self.inside.shared in
    let bytes = c.self.inside.records.now in
    let below : c.args.i < c.self.inside.left =
    omega (
      arith,
      ap length c.self.view_is,
      length-cut (width layout) (tap_at layout) c.self.inside.left bytes,
    ) in
    rw c.width_of-width.ensures (room layout _ _ bytes below c.self.invariant)

pub of-requires-clause-tap : goal.of-requires-clause-tap
of-requires-clause-tap c =
    let layout = layout_of c.self.inside.shared in
    let bytes = c.self.inside.records.now in
    let below : c.args.i < c.self.inside.left =
    omega (
      arith,
      ap length c.self.view_is,
      length-cut (width layout) (tap_at layout) c.self.inside.left bytes,
    ) in
    rw (c.record_at.ensures.bytes, c.width_of-width.ensures)
    (all-cut (width layout) (tap_at layout) IsTap _ _ bytes below c.self.invariant.each)

pub returns : goal.returns
returns c =
    let layout = layout_of c.self.inside.shared in
    let bytes = c.self.inside.records.now in
    let below : c.args.i < c.self.inside.left =
    omega (
      arith,
      ap length c.self.view_is,
      length-cut (width layout) (tap_at layout) c.self.inside.left bytes,
    ) in
    rw (← c.self.view_is, c.of.ensures, c.record_at.ensures.bytes, c.width_of-width.ensures)
    (slice_get-cut (width layout) (tap_at layout) _ _ bytes below)
