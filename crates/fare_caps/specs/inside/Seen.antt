-- What private functions make of the reasons without caps.
use Rattle.std.specs.Prelude.{Option, Some, None}
use Rattle.tariffs.specs.declared.mode.Mode.{Mode}
use Rattle.account_rule.specs.declared.reason.Reason.{Reason}
use Rattle.account_rule.specs.declared.reason.Reason.TheVariants.{Ride, Stale, Transfer, Unknown}
use Rattle.fare_caps.specs.declared.cap_charge.CapCharge.TheVariants.{ByWindow}
use Rattle.fare_caps.specs.declared.capped_account.LiveKind.{LiveKind}
use Rattle.fare_caps.specs.declared.capped_account.LiveKind.TheVariants as live
use Rattle.fare_caps.specs.declared.capped_reason.CappedReason.{CappedReason}
use Rattle.fare_caps.specs.declared.capped_reason.CappedReason.TheVariants as capped

-- the live tap whose reason this is, at a validator of the mode
abbrev pub kind_on : Reason → Mode → LiveKind
kind_on Unknown mode = live.Free
kind_on (Stale latest) mode = live.Free
kind_on (Transfer moment ride_mode) mode = live.Transfer moment ride_mode mode
kind_on (Ride start until charge) mode = live.Ride start until mode

-- the same, if the validator has a mode
abbrev pub live_kind : Reason → Option Mode → LiveKind
live_kind reason None = live.Free
live_kind reason (Some mode) = kind_on reason mode

-- the reason without caps, as one under caps
abbrev pub uncapped : Reason → CappedReason
uncapped Unknown = capped.Unknown
uncapped (Stale latest) = capped.Stale latest
uncapped (Transfer moment mode) = capped.Transfer moment mode
uncapped (Ride start until charge) = capped.Ride start until (ByWindow charge)
