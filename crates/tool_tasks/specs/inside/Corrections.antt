-- What private functions of `corrections` say.
use Rattle.frame.specs.declared.outside.Outside.{Outside}
use Rattle.ledger_changes.specs.Given.{HasStarted, IsAllGiven, IsFaultOf}
use Rattle.ledger_changes.specs.declared.fault.{Bill.Bill, WrongLine.WrongLine}
use Rattle.ledger_changes.specs.declared.fault.CorrectionsFault.TheVariants.{Line, Unread}
use Rattle.std.specs.Prelude.{◌≡◌, ◌⊎◌, ⊤, ℕ, Bool, List, [], Result, Ok, Err, Vec}
use Rattle.std.specs.declared.alloc.Global.{Global}
use Rattle.tool_tasks.specs.{Corrections.IsRemovedNote, Streams.with_stop, declared.stops.Halt.Halt}
use Rattle.world.specs.Run.{Calls, Run, with_written}
use Rattle.frame.specs.declared.outside.Outside.TheVariants as outside

-- what the calls that read both ledgers say of what stopped a run
abbrev pub IsStop : Calls → Calls → Outside → Type 0
IsStop old new (outside.Unread why) = (bill : Bill) × IsFaultOf (Unread bill) old new
IsStop old new (outside.Unwritten why) = ⊤
IsStop old new outside.Wrong =
    (bill : Bill) × (number : ℕ) × (why : WrongLine) × IsFaultOf (Line bill number why) old new
IsStop old new outside.NoMemory = ⊤
IsStop old new _ = ⊥

-- the text was written, of both ledgers that these calls read; or a part of it
abbrev pub IsWritten : Bool → Calls → Calls → Run → Run → Result ℕ Halt → Type 0
IsWritten by_token old new run run' (Ok removed) = (text : List ℕ)
    × (run' ≡ with_written run text) × IsAllGiven by_token old new text removed
IsWritten by_token old new run run' (Err halt) = (text : List ℕ)
    × ((text ≡ []) ⊎ HasStarted by_token text old new) × IsStop old new halt.0
    × (run' ≡ with_stop (with_written run text) halt.0)

-- it is noted how many lines are removed; or what stopped the writing stays
abbrev pub IsNoted : Result ℕ Halt → Result (Vec ℕ Global) Halt → Type 0
IsNoted (Ok removed) (Ok note) = IsRemovedNote removed note.items
IsNoted (Ok removed) (Err halt) = halt.0 ≡ outside.NoMemory
IsNoted (Err first) (Ok note) = ⊥
IsNoted (Err first) (Err halt) = halt.0 ≡ first.0
