use Rattle.std.proofs.Common.{◌∙◌, ap}
use Rattle.tap_rows.specs.LocalTimes.{offset_by}
use Rattle.tap_rows.proofs.LocalLemmas.{zone_offsets}
use Rattle.tap_rows.proofs.agency.local.offset_at.Goals as goal

pub returns : goal.returns
returns c = c.offset_by.ensures
    ∙ ap (offset_by c.args.clock.fold)
    (c.to_ambiguous_offset.ensures ∙ zone_offsets c.args.clock.zone c.args.time)
