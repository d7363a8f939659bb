-- Where bytes come from that are lent to a run, and what reading them leaves in its trace.
use Rattle.std.specs.Prelude.{◌≡◌, ℕ, List, [], ◌∷◌, ◌++◌, Some}
use Rattle.world.specs.Run.{Load, Run}

pub data Origin : Type 0 where
  -- it cannot be read
  nowhere : Origin
  -- memory holds these bytes
  memory : List ℕ → Origin
  -- the file of the system that has this name
  file : List ℕ → Origin
  -- nothing is said of the bytes, and no read of them is recorded
  anywhere : Origin

-- the bytes may come from there
abbrev pub IsFrom : Origin → List ℕ → Type 0
IsFrom nowhere bytes = ⊥
IsFrom (memory known) bytes = bytes ≡ known
IsFrom (file name) bytes = Unit {0}
IsFrom anywhere bytes = Unit {0}

-- the loads by which bytes are read from there: that of the file, with all of its bytes
abbrev pub loads_from : Origin → List ℕ → List Load
loads_from nowhere bytes = []
loads_from (memory known) bytes = []
loads_from (file name) bytes = record { name = Some name; bytes = bytes } ∷ []
loads_from anywhere bytes = []

abbrev pub with_loads : Run → List Load → Run
with_loads r loads = record r { loads = r.loads ++ loads }

-- The bytes were read from there, and nothing else was done.
pub record IsProvided (origin : Origin) (old new : Run) (bytes : List ℕ) : Type 0 where
  pub from : IsFrom origin bytes
  pub loads : new ≡ with_loads old (loads_from origin bytes)
