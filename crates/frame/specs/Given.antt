-- What a run loaded, wrote, said and made, or is to.
use Rattle.std.specs.Prelude.{◌≡◌, ℕ, List, [], ◌++◌, Option, map}
use Rattle.world.specs.Run.{Load, Named, Run}
use Rattle.frame.specs.Names.{file_named}

pub record Given : Type 0 where
  pub loads : List Load
  -- the text that goes to the output
  pub text : List ℕ
  -- what goes to the standard error
  pub note : List ℕ
  pub files : List Named

abbrev pub nothing : Given
nothing = record { loads = []; text = []; note = []; files = [] }

-- ---- with more
abbrev pub with_loads : Given → List Load → Given
with_loads g loads = record g { loads = g.loads ++ loads }

abbrev pub with_text : Given → List ℕ → Given
with_text g text = record g { text = g.text ++ text }

abbrev pub with_note : Given → List ℕ → Given
with_note g note = record g { note = g.note ++ note }

abbrev pub with_files : Given → List Named → Given
with_files g files = record g { files = g.files ++ files }

-- a file under its word
abbrev pub load_of : List ℕ → List ℕ → Load
load_of word bytes = record { name = file_named word; bytes = bytes }

abbrev pub file_of : List ℕ → List ℕ → Named
file_of name bytes = record { name = name; bytes = bytes }

-- what a run did that gave this, and nothing else
abbrev pub gave : Run → Given → Run
gave old g = record old {
  loads = old.loads ++ g.loads;
  written = old.written ++ g.text;
  said = old.said ++ g.note;
  made = old.made ++ g.files;
}

-- whatever was given before, this was given after it
abbrev pub Adds : Run → Run → (Given → Given) → Type 0
Adds old new more = (start : Run) (g : Given) → old ≡ gave start g → new ≡ gave start (more g)

-- These are the loads of files of these names, none being of standard input: each once, whole, and in
-- this order.
pub record LoadsFiles (names : List (Option (List ℕ))) (loads : List Load) (files : List (List ℕ))
    : Type 0 where
  pub named : map (λ load. load.name) loads ≡ names
  pub bytes : map (λ load. load.bytes) loads ≡ files

abbrev pub IsPrefix : {A : Type 0} → List A → List A → Type 0
IsPrefix {A} part whole = (rest : List A) × (whole ≡ part ++ rest)

-- Of what is given after these loads a part was.
pub record IsPart (part whole : Given) : Type 0 where
  pub loads : part.loads ≡ whole.loads
  pub text : IsPrefix part.text whole.text
  pub note : IsPrefix part.note whole.note
  pub files : IsPrefix part.files whole.files
