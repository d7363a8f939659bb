-- Uploads that are lent to a service, each from where it comes.
use Rattle.std.specs.Prelude.{◌≡◌, ◌<◌, ℕ, List, length, slice_index_or}
use Rattle.std.specs.List.{AllZip}
use Rattle.world.specs.Origins.{Origin, nowhere, memory, IsProvided}
use Rattle.world.specs.Run.{Run}

-- where an upload comes from
abbrev pub origin_at : List Origin → ℕ → Origin
origin_at uploads upload = slice_index_or uploads upload nowhere

-- the upload was lent with these bytes, and nothing was done but the loads of its origin
abbrev pub IsProvidedAs : List Origin → ℕ → Run → Run → List ℕ → Type 0
IsProvidedAs uploads upload old new bytes = IsProvided (origin_at uploads upload) old new bytes

-- memory does not hold what comes from there
abbrev pub IsOutside : Origin → Type 0
IsOutside (memory known) = ⊥
IsOutside _ = Unit {0}

-- an upload that may fail to be lent: memory does not hold it
abbrev pub IsUnavailable : List Origin → ℕ → Type 0
IsUnavailable uploads upload = (upload < length uploads) × IsOutside (origin_at uploads upload)

-- the bytes are those that memory holds, if it holds them
abbrev pub IsAsKnown : Origin → List ℕ → Type 0
IsAsKnown (memory known) bytes = bytes ≡ known
IsAsKnown _ bytes = Unit {0}

-- there is a file for each upload: the bytes that memory holds, or any bytes if it holds none
abbrev pub AreProvidedAs : List Origin → List (List ℕ) → Type 0
AreProvidedAs uploads files = AllZip IsAsKnown uploads files
