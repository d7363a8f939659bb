-- What a run did so far, as its system calls tell.
use Rattle.std.specs.Prelude.{ℕ, ◌+◌, ◌==◌, if◌then◌else◌, List, [], ◌∷◌, ◌++◌, take}
use Rattle.std.specs.Prelude.{Option, None, Some}
use Rattle.world.specs.declared.faults.WriteFault.{WriteFault}

-- bytes that were read under a name, or from standard input, which has none
pub record Load : Type 0 where
  pub name : Option (List ℕ)
  pub bytes : List ℕ

-- bytes under a name
pub record Named : Type 0 where
  pub name : List ℕ
  pub bytes : List ℕ

pub record Run : Type 0 where
  -- what was read to its end, in order
  pub loads : List Load
  -- the names that could not be opened or read
  pub unread : List (Option (List ℕ))
  -- what was longer than the limit, with the bytes that reads gave until that was seen
  pub too_long : List Load
  -- what writes to the output took
  pub written : List ℕ
  -- why the last write to the output, or flush, that failed did so; none if none failed
  pub cut : Option WriteFault
  -- what had been written when the output was flushed last
  pub flushed : List ℕ
  -- what was given to the standard error
  pub said : List ℕ
  -- the files that were made, in order
  pub made : List Named
  -- the names that could not be made
  pub unmade : List (List ℕ)

abbrev pub nothing_yet : Run
nothing_yet = record {
  loads = [];
  unread = [];
  too_long = [];
  written = [];
  cut = None;
  flushed = [];
  said = [];
  made = [];
  unmade = [];
}

abbrev pub with_load : Run → Option (List ℕ) → List ℕ → Run
with_load r name bytes =
    record r { loads = r.loads ++ record { name = name; bytes = bytes } ∷ [] }

abbrev pub with_unread : Run → Option (List ℕ) → Run
with_unread r name = record r { unread = r.unread ++ name ∷ [] }

abbrev pub with_too_long : Run → Load → Run
with_too_long r load = record r { too_long = r.too_long ++ load ∷ [] }

abbrev pub with_written : Run → List ℕ → Run
with_written r bytes = record r { written = r.written ++ bytes }

abbrev pub with_cut : Run → WriteFault → Run
with_cut r fault = record r { cut = Some fault }

abbrev pub with_flushed : Run → Run
with_flushed r = record r { flushed = r.written }

abbrev pub with_said : Run → List ℕ → Run
with_said r text = record r { said = r.said ++ text }

abbrev pub with_made : Run → Named → Run
with_made r file = record r { made = r.made ++ file ∷ [] }

abbrev pub with_unmade : Run → List ℕ → Run
with_unmade r name = record r { unmade = r.unmade ++ name ∷ [] }

-- What the system calls tell: how many there were, what is being read and what its reads gave so
-- far, and what the run did.
pub record Calls : Type 0 where
  pub count : ℕ
  pub reading : Load
  pub run : Run

abbrev pub no_calls : Calls
no_calls = record { count = 0; reading = record { name = None; bytes = [] }; run = nothing_yet }

-- one call more, which does this
abbrev pub one_more : Calls → Run → Calls
one_more c run = record c { count = c.count + 1; run = run }

-- From here on the file of this name is read, or standard input.
abbrev pub after_opened : Calls → Option (List ℕ) → Calls
after_opened c name =
    record c { count = c.count + 1; reading = record { name = name; bytes = [] } }

-- A read that gives no bytes ends the file: it is loaded. Else it gives this many bytes, the first
-- ones of these.
abbrev pub after_read : Calls → List ℕ → ℕ → Calls
after_read c bytes count =
    if count == 0
    then one_more c (with_load c.run c.reading.name c.reading.bytes)
    else record c {
      count = c.count + 1;
      reading = record { name = c.reading.name; bytes = c.reading.bytes ++ take count bytes };
    }

-- the second if there is one, else the first
abbrev pub last_of : Option WriteFault → Option WriteFault → Option WriteFault
last_of first None = first
last_of first (Some second) = Some second

-- What one run did, and then what another did. What the other flushed is not known to be flushed.
abbrev pub with_all : Run → Run → Run
with_all r s = record r {
  loads = r.loads ++ s.loads;
  unread = r.unread ++ s.unread;
  too_long = r.too_long ++ s.too_long;
  written = r.written ++ s.written;
  cut = last_of r.cut s.cut;
  said = r.said ++ s.said;
  made = r.made ++ s.made;
  unmade = r.unmade ++ s.unmade;
}

-- the calls of another thread
abbrev pub after_joined : Calls → Calls → Calls
after_joined c d =
    record c { count = c.count + d.count + 1; run = with_all c.run d.run }

-- A file of this name was made, which these calls wrote.
abbrev pub after_made : Calls → List ℕ → Calls → Calls
after_made c name d = record c {
  count = c.count + d.count + 1;
  run = with_made c.run (record { name = name; bytes = d.run.written });
}
