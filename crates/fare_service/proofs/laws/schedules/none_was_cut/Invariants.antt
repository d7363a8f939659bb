use Rattle.std.proofs.Common.{All, take}
use Rattle.fare_service.specs.Plain.{WasNotCut}
use Rattle.fare_service.proofs.laws.schedules.none_was_cut.Given as goal

abbrev pub invariant-loop-upload : goal.invariant-loop-upload
invariant-loop-upload l = All WasNotCut (take l.upload l.outcome.ends)
