-- Files that are loaded by their words.
use Rattle.frame.specs.{Given.LoadsFiles, Names.file_named, Outsides.Leaves}
use Rattle.frame.specs.declared.outside.Outside.{Outside}
use Rattle.std.specs.Prelude.{◌≡◌, ⊤, ℕ, Contains, List, None, Option, Some, map}
use Rattle.world.specs.{Origins.with_loads, Run.Load, Run.Run}

-- one of the words is the name, if there is one
abbrev pub IsNameIn : List (List ℕ) → Option (List ℕ) → Type 0
IsNameIn words None = ⊤
IsNameIn words (Some name) = Contains words name

-- these texts were loaded, each under the name that its word names, one after the other
pub record LoadsAll (words : List (List ℕ)) (old new : Run) (texts : List (List ℕ)) : Type 0 where
  pub loads : List Load
  pub are : LoadsFiles (map file_named words) loads texts
  pub all : new ≡ with_loads old loads

-- some files were loaded, and then this came
abbrev pub StopsLoading : List (List ℕ) → Outside → Run → Run → Type 0
StopsLoading words why old new = (loads : List Load) × Leaves words why (with_loads old loads) new
