-- Faults: what private functions alone cite.
use Rattle.fare_program.specs.declared.fault.Fault.{Fault, TheVariants.Class, TheVariants.File}
use Rattle.fare_program.specs.declared.fault.Fault.TheVariants.{Late, Tables, TooManyTaps, Unopened}
use Rattle.fare_program.specs.declared.fault.Fault.TheVariants.{Unsorted, Uploads, Write}
use Rattle.fare_program.specs.declared.fault.Fault.TheVariants.{NoMemory as OutOfMemory}
use Rattle.fare_texts.specs.declared.print_fault.PrintFault.{PrintFault}
use Rattle.fare_texts.specs.declared.print_fault.PrintFault.TheVariants as print
use Rattle.frame.specs.declared.outside.Outside.{Outside, TheVariants.NoMemory, TheVariants.Unread}
use Rattle.frame.specs.declared.outside.Outside.TheVariants.{Untraced, Unwritten, Wrong}
use Rattle.program_manners.specs.TablesFaults as tables
use Rattle.sorted_taps.specs.declared.fault.SortedFault.{SortedFault}
use Rattle.sorted_taps.specs.declared.fault.SortedFault.TheVariants as sorted
use Rattle.std.specs.Prelude.{⊤, Bool, Err, None, Ok, Option, Result, Some}
use Rattle.world.specs.declared.faults.WriteFault.{WriteFault}

-- why a text was not printed
abbrev pub printed_as : PrintFault → Fault
printed_as print.Write = Write
printed_as print.NoMemory = OutOfMemory

-- what the writing of a text comes to, of uploads that are whole or not
abbrev pub ended_as : {A : Type 0} → Result A PrintFault → Bool → Result Bool Fault
ended_as (Ok done) success = Ok success
ended_as (Err fault) success = Err (printed_as fault)

-- what stops a run that cannot write, of which the output remembers why, or no write that failed
abbrev pub of_write : Option WriteFault → Outside
of_write None = NoMemory
of_write (Some why) = Unwritten why

-- what stops a run over a sorted file that is not in order, or not read
abbrev pub of_sorted : SortedFault → Outside
of_sorted sorted.Unread = Untraced
of_sorted sorted.NoMemory = NoMemory
of_sorted fault = Wrong

-- what stops a run by this fault
abbrev pub outside_of : Option WriteFault → Fault → Outside
outside_of end (File file) = Unread file.fault
outside_of end (Tables fault) = tables.outside_of fault
outside_of end (Class file alone) = Wrong
outside_of end (Unopened name why) = Untraced
outside_of end (Unsorted name fault) = of_sorted fault
outside_of end TooManyTaps = Wrong
outside_of end (Late fault) = Untraced
outside_of end Uploads = Wrong
outside_of end Write = of_write end
outside_of end OutOfMemory = NoMemory

-- This can stop a run that does nothing: what files hold is wrong, if this holds, or a sorted file was
-- not read or changed, if that holds, or an allocation failed.
abbrev pub Shows : Type 0 → Type 0 → Outside → Type 0
Shows wrong late Wrong = wrong
Shows wrong late Untraced = late
Shows wrong late NoMemory = ⊤
Shows wrong late _ = ⊥

-- So can this fault, where a write that failed counts as an allocation.
abbrev pub CanStop : Type 0 → Type 0 → Fault → Type 0
CanStop wrong late fault = Shows wrong late (outside_of None fault)
