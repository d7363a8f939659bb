use Rattle.tap_views.proofs.Encodings.{encodes_2}
use Rattle.tap_views.proofs.encoder.encode_tap2.Goals as goal

pub returns-clause-batch : goal.returns-clause-batch
returns-clause-batch c =
    encodes_2 c.args.validator c.args.taps.now _ c.ranges.validator.fits c.in_ok-check.ensures.ok.0
    c.in_ok-check.ensures.ok.1
    c.in_ok-write_tap2.ensures.fields c.in_ok-write_tap2.ensures.bytes
