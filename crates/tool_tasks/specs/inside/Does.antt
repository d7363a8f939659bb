-- What a subcommand did, before what stopped it is reported.
use Rattle.std.specs.Prelude.{◌≡◌, ℕ, Result, Ok, Err}
use Rattle.frame.specs.{Outcome.IsDone, Outcome.IsHalted, Outcome.Rule, Outsides.IsReported}
use Rattle.tool_tasks.specs.declared.stops.Halt.{Halt}
use Rattle.world.specs.Run.{Run}

abbrev pub Does : Rule → Run → Run → Result ℕ Halt → Type 0
Does rule old new (Ok status) = IsDone rule old new status
Does rule old new (Err halt) = IsHalted rule old new halt.0

-- and then: the status, after what stopped it is reported
abbrev pub IsEnded : Result ℕ Halt → Run → Run → ℕ → Type 0
IsEnded (Ok status) old new result = (result ≡ status) × (new ≡ old)
IsEnded (Err halt) old new result = IsReported halt.0 old new × (result ≡ 1)
