-- What is done of what was prepared: what private functions alone cite.
use Rattle.frame.specs.Given.{Given, file_of, gave, with_files, with_note, with_text}
use Rattle.frame.specs.Outsides.{IsStoppedIn}
use Rattle.std.specs.Prelude.{◌≡◌, ⊤, ℕ, Contains, List, [], ◌∷◌, None, Option, Some, Result, Ok}
use Rattle.std.specs.Prelude.{Err, string_bytes}
use Rattle.tool_tasks.specs.declared.prepared.{NewFile.NewFile, Partial.Partial, Prepared.Prepared}
use Rattle.tool_tasks.specs.declared.stops.Halt.{Halt}
use Rattle.world.specs.Run.{Load, Named, Run, with_flushed}

abbrev pub files_in : Option NewFile → List Named
files_in None = []
files_in (Some file) = file_of file.name.now file.bytes.items ∷ []

abbrev pub known_file : List ℕ → Option (List ℕ) → List Named
known_file name None = []
known_file name (Some bytes) = file_of name bytes ∷ []

-- the file that was begun, by what it holds
abbrev pub partial_files : {F : Type 0} → (F → Option (List ℕ)) → Option (Partial F) → List Named
partial_files contents None = []
partial_files contents (Some partial) = known_file partial.name.now (contents partial.file)

abbrev pub IsKnown : {F : Type 0} → (F → Option (List ℕ)) → Option (Partial F) → Type 0
IsKnown contents None = ⊤
IsKnown contents (Some partial) = (bytes : List ℕ) × (contents partial.file ≡ Some bytes)

-- with the files that are not begun, and the text
abbrev pub with_prepared : Given → Prepared → Given
with_prepared g p = with_files (with_text (with_files g (files_in p.first)) p.text.items)
    (files_in p.upload)

-- what was loaded, what was prepared, and these files
abbrev pub given_of : List Load → Prepared → List Named → Given
given_of loads p files = with_note (with_files (with_prepared
    (record { loads = loads; text = []; note = []; files = [] }) p) files) (string_bytes p.note)

-- the same with the file that is held, if there is one
abbrev pub whole_of : List Load → Prepared → Given
whole_of loads p = given_of loads p (files_in p.held)

-- ---- the words that name the files
abbrev pub IsNamedIn : List (List ℕ) → Option NewFile → Type 0
IsNamedIn words None = ⊤
IsNamedIn words (Some file) = Contains words file.name.now

abbrev pub IsPartialIn : {F : Type 0} → List (List ℕ) → Option (Partial F) → Type 0
IsPartialIn words None = ⊤
IsPartialIn words (Some partial) = Contains words partial.name.now

pub record AreNamed (words : List (List ℕ)) (p : Prepared) : Type 0 where
  pub first : IsNamedIn words p.first
  pub upload : IsNamedIn words p.upload
  pub held : IsNamedIn words p.held

-- all of it was given and flushed; or a part, when this came
abbrev pub Carries : List (List ℕ) → Run → Given → ℕ → Run → Result ℕ Halt → Type 0
Carries words start whole status new (Ok result) =
    (result ≡ status) × (new ≡ with_flushed (gave start whole))
Carries words start whole status new (Err halt) = IsStoppedIn words start new whole halt.0
