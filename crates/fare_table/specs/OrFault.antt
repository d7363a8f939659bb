-- What a step of reading a table gives: its meaning, or the first fault.
use Rattle.std.specs.Prelude.{Result, Ok, Err}
use Rattle.fare_table.specs.declared.fault.TableFault.{TableFault}

-- a meaning, or the first fault
abbrev pub OrFault : Type 0 → Type 0
OrFault A = Result A TableFault

-- steps one after the other, up to the first fault
infixl 10 ◌>>=◌
-- the first fault, or what comes of the value
abbrev pub ◌>>=◌ : {A B : Type 0} → Result A TableFault → (A → Result B TableFault)
    → Result B TableFault
Ok x >>= f = f x
Err e >>= f = Err e
