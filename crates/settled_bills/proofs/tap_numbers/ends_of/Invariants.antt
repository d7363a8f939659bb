use Rattle.std.proofs.Common.{◌≡◌, map, take}
use Rattle.tap_views.specs.declared.upload_end.UploadEnd.TheVariants.{Posted}
use Rattle.settled_bills.proofs.tap_numbers.ends_of.Given as goal

abbrev pub invariant-loop-taps : goal.invariant-loop-taps
invariant-loop-taps l = l.ends.items ≡ map Posted (take l.taps-index l.numbers)
