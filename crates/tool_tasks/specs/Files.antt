-- Files that are made.
use Rattle.frame.specs.Given.{file_of}
use Rattle.std.specs.Prelude.{ℕ, List, [], ◌∷◌, Option, None, Some}
use Rattle.world.specs.Run.{Named}

-- the file of these bytes, if it has a name
abbrev pub named_files : Option (List ℕ) → List ℕ → List Named
named_files None bytes = []
named_files (Some name) bytes = file_of name bytes ∷ []
