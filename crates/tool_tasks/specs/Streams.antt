-- Texts that are made of files which are read in pieces: how a run over them ends.
use Rattle.frame.specs.{Given.Given, Names.file_named, Outcome.Ends, Outcome.Rule}
use Rattle.frame.specs.declared.outside.Outside.{Outside}
use Rattle.frame.specs.declared.outside.Outside.TheVariants.{NoMemory, Unread, Unwritten, Wrong}
use Rattle.std.specs.Prelude.{◌≡◌, ◌⊎◌, ⊤, ℕ, Contains, List, [], ◌∷◌, ◌++◌, Option, None, Some}
use Rattle.world.specs.Run.{Calls, Run, last_of, with_flushed}
use Rattle.world.specs.declared.faults.WriteFault.{WriteFault}

-- no file was loaded or made
abbrev pub written_of : List ℕ → List ℕ → Given
written_of text note = record { loads = []; text = text; note = note; files = [] }

-- of one of these words a call failed
abbrev pub HasFailed : List (List ℕ) → List Calls → Type 0
HasFailed words calls = (word : List ℕ) × Contains words word × (failed : Calls)
    × Contains calls failed × (failed.run.unread ≡ file_named word ∷ [])

-- nothing was done, but perhaps a flush
abbrev pub IsKept : Run → Run → Type 0
IsKept before after = (after ≡ before) ⊎ (after ≡ with_flushed before)

-- this can stop a run that read by these calls; of a file that is wrong, this is true
abbrev pub CanStop : Type 0 → List (List ℕ) → List Calls → Outside → Type 0
CanStop truth words calls (Unread why) = HasFailed words calls
CanStop truth words calls (Unwritten why) = ⊤
CanStop truth words calls Wrong = truth
CanStop truth words calls NoMemory = ⊤
CanStop truth words calls _ = ⊥

-- the write that failed
abbrev pub cut_of : Outside → Option WriteFault
cut_of (Unwritten why) = Some why
cut_of _ = None

-- the run, as this stopped it
abbrev pub with_stop : Run → Outside → Run
with_stop r why = record r { cut = last_of r.cut (cut_of why) }

-- What is asked for of a run that read what these words name by these calls: a text and a note that
-- are right, what may have been written when something stops the run, and what is true if what was
-- read is wrong.
pub record Stream : Type 1 where
  pub words : List (List ℕ)
  pub calls : List Calls
  pub Whole : (text note : List ℕ) → Type 0
  pub Part : List ℕ → Type 0
  pub Wrong : Type 0

abbrev pub stream_rule : Stream → Rule
stream_rule s = record {
  Right = λ given status. (given ≡ written_of given.text given.note)
      × s.Whole given.text given.note × (status ≡ 0);
  Partial = λ part. (part ≡ written_of part.text []) × ((part.text ≡ []) ⊎ s.Part part.text);
  Leaves = λ part why old new. CanStop s.Wrong s.words s.calls why × IsKept (with_stop old why) new;
}

-- some calls followed, and what is asked for of them ends so
abbrev pub EndsBy : (List Calls → Stream) → (before after : List Calls) → Run → Run → ℕ → Type 0
EndsBy stream before after old new status = (calls : List Calls) × (after ≡ before ++ calls)
    × Ends (stream_rule (stream calls)) old new status
