-- Places: what private functions alone cite.
use Rattle.std.specs.Prelude.{false}
use Rattle.tap_views.specs.declared.encoder.TapFields.{TapFields}
use Rattle.ledger_check.specs.declared.positions.PlacedTap.{PlacedTap}

-- a tap whose place was not named
abbrev pub unnamed : TapFields → PlacedTap
unnamed tap = record { tap = tap; is_named = false }
