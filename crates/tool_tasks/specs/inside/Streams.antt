-- What a run over files that are read in pieces did, before the output is flushed.
use Rattle.frame.specs.declared.outside.Outside.{Outside}
use Rattle.frame.specs.declared.outside.Outside.TheVariants.{NoMemory, Unread, Unwritten}
use Rattle.std.specs.Prelude.{◌≡◌, ◌⊎◌, ⊤, ℕ, List, [], Result, Ok, Err, Vec}
use Rattle.std.specs.declared.alloc.Global.{Global}
use Rattle.tool_tasks.specs.Streams.{CanStop, HasFailed, IsKept, Stream, with_stop}
use Rattle.tool_tasks.specs.declared.stops.Halt.{Halt}
use Rattle.world.specs.Run.{Calls, Run, with_cut, with_flushed, with_said, with_written}
use Rattle.world.specs.declared.faults.WriteFault.{WriteFault}

-- one of the words was not opened, which the calls say
abbrev pub IsUnopened : List (List ℕ) → List Calls → Outside → Type 0
IsUnopened words calls (Unread why) = HasFailed words calls
IsUnopened words calls NoMemory = ⊤
IsUnopened words calls _ = ⊥

-- a text was written, and the note is right with it; or a part of one
abbrev pub IsStreamed : Stream → Run → Run → Result (Vec ℕ Global) Halt → Type 0
IsStreamed s old new (Ok note) = (text : List ℕ) × (new ≡ with_written old text)
    × ((text ≡ []) ⊎ s.Part text) × s.Whole text note.items
IsStreamed s old new (Err halt) = (text : List ℕ) × ((text ≡ []) ⊎ s.Part text)
    × CanStop s.Wrong s.words s.calls halt.0 × (new ≡ with_stop (with_written old text) halt.0)

-- the flush failed
abbrev pub IsCutBy : Outside → Run → Run → Type 0
IsCutBy why old new = (fault : WriteFault) × (why ≡ Unwritten fault) × (new ≡ with_cut old fault)

-- the output was flushed, and the note given
abbrev pub IsFinished : Result (Vec ℕ Global) Halt → Run → Run → Result ℕ Halt → Type 0
IsFinished (Ok note) old new (Ok status) =
    (status ≡ 0) × (new ≡ with_said (with_flushed old) note.items)
IsFinished (Ok note) old new (Err halt) = IsCutBy halt.0 old new
IsFinished (Err first) old new (Ok status) = ⊥
IsFinished (Err first) old new (Err halt) =
    ((halt.0 ≡ first.0) × IsKept old new) ⊎ IsCutBy halt.0 old new
