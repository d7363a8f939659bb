-- Uploads that are read one by one.
use Rattle.std.specs.Prelude.{◌≡◌, ℕ, suc, ◌+◌, ◌<◌, List, [], ◌∷◌, ◌++◌, length, slice_index_or}
use Rattle.world.specs.Origins.{IsFrom, Origin, loads_from, with_loads}
use Rattle.world.specs.Run.{Load, Run}

-- the loads by which the uploads from one number on are read as these files, in their order
abbrev pub loads_in_order : (ℕ → Origin) → ℕ → List (List ℕ) → List Load
loads_in_order origin start [] = []
loads_in_order origin start (bytes ∷ files) =
    loads_from (origin start) bytes ++ loads_in_order origin (suc start) files

-- The files are what the uploads from one number on, and below another, were read as, in their
-- order. Each was read once, from its origin, and nothing else was done. An upload's origin is given
-- by its number.
pub record AreRead (origin : ℕ → Origin) (start end : ℕ) (files : List (List ℕ)) (old new : Run)
    : Type 0 where
  pub number : start + length files ≡ end
  pub each : (at : ℕ) → at < length files
      → IsFrom (origin (start + at)) (slice_index_or files at [])
  pub loads : new ≡ with_loads old (loads_in_order origin start files)
