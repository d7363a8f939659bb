use Rattle.std.proofs.Common.{map, ap, ◌∙◌}
use Rattle.tap_views.proofs.Encodings.{fields_read, fields_shared}
use Rattle.tap_views.specs.{Encoding.with_validator, Layout.Tap1, Layout.Tap2}
use Rattle.tap_views.proofs.laws.round_trip.Goals as goal

pub returns-clause-tap1 : goal.returns-clause-tap1
returns-clause-tap1 c encoded trailing taps is whole =
    fields_read c.first.result is.taps trailing taps is.read
    (c.first.ensures.only encoded trailing is.taps (Tap1, is.batch) whole)

pub returns-clause-tap2 : goal.returns-clause-tap2
returns-clause-tap2 c encoded trailing validator taps is whole =
    fields_read c.first.result is.taps trailing (map (with_validator validator) taps)
    (fields_shared is.written validator is.taps is.number is.batch.each
    ∙ ap (map (with_validator validator)) is.read)
    (c.first.ensures.only encoded trailing is.taps (Tap2 is.written, is.batch) whole)
