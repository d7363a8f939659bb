-- The tap that a line names, as an upload has it.
use Rattle.ledger_check.specs.declared.tap.Tap.{Tap}
use Rattle.tap_views.specs.{Token.bytes_of, declared.encoder.TapFields.TapFields}

-- the tap, with the bytes of its token
abbrev pub tap_fields : Tap → TapFields
tap_fields tap =
    record { token = bytes_of tap.token; validator = tap.validator; moment = tap.moment }
