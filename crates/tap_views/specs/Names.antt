-- The names of layout faults.
use Rattle.std.specs.Prelude.{ℕ, List, codes}
use Rattle.tap_views.specs.declared.fault.LayoutFault.{LayoutFault}
use Rattle.tap_views.specs.declared.fault.LayoutFault.TheVariants.{Short, Magic, Flags, TooMany}
use Rattle.tap_views.specs.declared.fault.LayoutFault.TheVariants.{Length, Moment}

-- the layout faults by their names
abbrev pub fault_name : LayoutFault → List ℕ
fault_name (Short have) = codes "L1"
fault_name Magic = codes "L2"
fault_name Flags = codes "L3"
fault_name (TooMany count) = codes "L4"
fault_name (Length want have) = codes "L5"
fault_name (Moment index) = codes "L6"
