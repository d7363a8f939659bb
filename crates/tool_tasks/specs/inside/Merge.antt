-- What private functions of `merge` say.
use Rattle.frame.specs.declared.outside.Outside.{Outside}
use Rattle.part_texts.specs.declared.fault.MergeFault.{MergeFault}
use Rattle.part_texts.specs.declared.fault.MergeFault.TheVariants.{Line, Unread, Write, NoMemory}
use Rattle.std.specs.Prelude.{◌≡◌, ℕ, List, [], Option, Result, Ok, Err, Vec, map}
use Rattle.std.specs.declared.alloc.Global.{Global}
use Rattle.tool_tasks.specs.declared.stops.Halt.{Halt}
use Rattle.world.specs.Run.{Calls}
use Rattle.frame.specs.declared.outside.Outside.TheVariants as outside
use Rattle.world.specs.declared.faults.LoadFault.TheVariants as load

abbrev pub names_of : List Calls → List (Option (List ℕ))
names_of calls = map (λ c. c.reading.name) calls

-- what a fault is to the run
abbrev pub why_of : MergeFault → Outside
why_of (Line part number why) = outside.Wrong
why_of (Unread part) = outside.Unread load.Unread
why_of (Write why) = outside.Unwritten why
why_of NoMemory = outside.NoMemory

abbrev pub IsNoted : Result Unit MergeFault → Result (Vec ℕ Global) Halt → Type 0
IsNoted (Ok done) (Ok note) = note.items ≡ []
IsNoted (Err fault) (Err halt) = halt.0 ≡ why_of fault
IsNoted merged noted = ⊥
