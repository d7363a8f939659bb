-- What a fault of printing leaves.
use Rattle.fare_texts.specs.declared.print_fault.PrintFault.{PrintFault}
use Rattle.fare_texts.specs.declared.print_fault.PrintFault.TheVariants.{Write, NoMemory}

-- `kept` holds, unless the fault is a write that failed
abbrev pub UnchangedUnlessWrite : PrintFault → Type 0 → Type 0
UnchangedUnlessWrite Write kept = Unit {0}
UnchangedUnlessWrite NoMemory kept = kept
