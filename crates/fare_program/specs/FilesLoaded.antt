-- Where the files of a run come from.
use Rattle.std.specs.Prelude.{◌≡◌, ◌⊎◌, ℕ, List, [], ◌∷◌, Option, None, Some, false, length, map}
use Rattle.std.specs.Prelude.{slice_index_or}
use Rattle.world.specs.{Origins.Origin, Origins.file, Run.Load}
use Rattle.frame.specs.Given.{LoadsFiles}
use Rattle.fare_program.specs.Options.{Request}

-- the names under which files are loaded: standard input, which has no name, if none is named
abbrev pub names_to_load : List (List ℕ) → List (Option (List ℕ))
names_to_load [] = None ∷ []
names_to_load (name ∷ names) = map Some (name ∷ names)

-- the file at this place, or its name
abbrev pub text_at : List (List ℕ) → ℕ → List ℕ
text_at texts position = slice_index_or texts position []

-- the load of the file at this place under its name
abbrev pub load_at : List (List ℕ) → List (List ℕ) → ℕ → Load
load_at names files position =
    record { name = Some (text_at names position); bytes = text_at files position }

-- The files of these names were loaded to their ends by the workers that drew them, at these places.
pub record LoadsDrawn (names : List (List ℕ)) (loads : List Load) (files : List (List ℕ))
    (drawn : List ℕ) : Type 0 where
  pub number : length files ≡ length names
  pub all : loads ≡ map (load_at names files) drawn

-- These are the files that are asked for: they were loaded in their order, or as they were drawn if
-- they are not settled, and nothing else was. It is said of the system's files.
abbrev pub AreLoaded : Request → (List ℕ → Origin) → List Load → List (List ℕ) → List ℕ → Type 0
AreLoaded request origin loads files drawn = ((name : List ℕ) → origin name ≡ file name)
    → LoadsFiles (names_to_load request.files) loads files
    ⊎ ((request.settle ≡ false) × LoadsDrawn request.files loads files drawn)
