-- How a run ends over a world, beside its output.
use Rattle.std.proofs.Common.{◌≡◌, ◌∙◌, ◌++◌, [], ℕ, List, Bool, None, Option, Some, ap, append-nil}
use Rattle.std.proofs.Common.{false, inl, inr, refl, subst, sym, true}
use Rattle.fare_program.proofs.Works.{whole}
use Rattle.fare_program.specs.Causes.{IsWrong, names_read}
use Rattle.fare_program.specs.Ends.{IsRequested, beside, fares_rule, seen_by}
use Rattle.fare_program.specs.{Options.Request, Program.Does, declared.fault.Fault.Fault}
use Rattle.fare_program.specs.declared.fault.Fault.TheVariants.{File as NoFile, Late, Tables, Unsorted}
use Rattle.fare_program.specs.declared.fault.Fault.TheVariants.{Write}
use Rattle.fare_program.specs.inside.{Ends.HasStopped, Ends.Stops, Fault.of_sorted, Fault.of_write}
use Rattle.fare_program.specs.inside.Fault.{outside_of}
use Rattle.fare_texts.specs.WrittenOut.{Begins}
use Rattle.frame.specs.{Given.Given, Given.gave, Outcome.IsDone, Outcome.IsHalted}
use Rattle.frame.specs.Outsides.{IsReported, LeavesFiles, is_quiet}
use Rattle.frame.specs.declared.outside.Outside.{Outside, TheVariants.NoMemory, TheVariants.Unmade}
use Rattle.frame.specs.declared.outside.Outside.TheVariants.{Unread, Untraced, Unwritten, Wrong}
use Rattle.program_manners.specs.TablesFaults as tables
use Rattle.program_manners.specs.declared.table_loads.TablesFault.{TablesFault, TheVariants.File}
use Rattle.program_manners.specs.declared.table_loads.TablesFault.TheVariants.{NoMemory as NoRoom}
use Rattle.sorted_taps.specs.declared.fault.SortedFault.{SortedFault}
use Rattle.sorted_taps.specs.declared.fault.SortedFault.TheVariants as sorted
use Rattle.std.specs.Prelude.{◌≢◌, ◌⊎◌, MatchBool, if◌then◌else◌}
use Rattle.world.specs.{Loads.IsRefused, Origins.Origin, Origins.with_loads, Run.Load, Run.Run}
use Rattle.world.specs.Run.{with_cut, with_too_long, with_unread}
use Rattle.world.specs.{Writes.IsSaid, declared.faults.LoadFault.LoadFault}
use Rattle.world.specs.declared.faults.LoadFault.TheVariants as load
use Rattle.world.specs.declared.faults.WriteFault.{WriteFault}

never_unwritten : (fault : TablesFault) (w : WriteFault) → tables.outside_of fault ≡ Unwritten w → ⊥
never_unwritten (File file) w same = absurd (cc)
never_unwritten NoRoom w same = absurd (cc)
never_unwritten _ w same = absurd (cc)

sorted_unwritten : (fault : SortedFault) (w : WriteFault) → of_sorted fault ≡ Unwritten w → ⊥
sorted_unwritten sorted.Unread w same = absurd (cc)
sorted_unwritten sorted.NoMemory w same = absurd (cc)
sorted_unwritten _ w same = absurd (cc)

-- ---- what is said, and a text that is whole
pub said_beside : (old new : Run) (written : List ℕ) (end : Option WriteFault) (flushed : Bool)
    → IsSaid old new → IsSaid (beside old written end flushed) (beside new written end flushed)
said_beside old new written end flushed said = record {
  text = said.text;
  only = ap (λ (r : Run). beside r written end flushed) said.only;
}

reported_by : (quiet : Bool) (old new : Run) (written : List ℕ) (end : Option WriteFault)
    (flushed : Bool) → MatchBool quiet (new ≡ old) (IsSaid old new)
    → MatchBool quiet (beside new written end flushed ≡ beside old written end flushed)
    (IsSaid (beside old written end flushed) (beside new written end flushed))
reported_by true old new written end flushed same =
    ap (λ (r : Run). beside r written end flushed) same
reported_by false old new written end flushed said = said_beside old new written end flushed said

pub reported_beside : (why : Outside) (old new : Run) (written : List ℕ) (end : Option WriteFault)
    (flushed : Bool) → IsReported why old new
    → IsReported why (beside old written end flushed) (beside new written end flushed)
reported_beside why = reported_by (is_quiet why)

module _ (request : Request) (under : List ℕ → Option (List ℕ)) (origin : List ℕ → Origin)
    (old new : Run) (before after : List ℕ) (flushed : Bool) (loads : List Load) where
  pub done : (end : Option WriteFault) (is_flushed success : Bool) (text : List ℕ)
      → new ≡ with_loads old loads → after ≡ before ++ text → end ≡ None → is_flushed ≡ true
      → Does request under origin loads text success
      → IsDone (fares_rule request under origin) (beside old before None flushed)
      (beside new after end is_flushed) (if success then 0 else 1)
  done end is_flushed success text is grown none all does = record {
    given = record { loads = loads; text = text; note = []; files = [] };
    right = (refl, success, refl, does);
    all = rw (is, grown, none, all, append-nil old.said, append-nil old.made) refl;
  }

  module _ (front : List ℕ) where
    abbrev part : Given
    part = record { loads = loads; text = front; note = []; files = [] }

    abbrev started : Run
    started = gave (beside old before None flushed) part

    -- a run, with what is promised of the output in place of what it had
    abbrev viewed : Run → Run
    viewed run = record run { written = started.written; cut = started.cut; flushed = started.flushed }

    of_part : started ≡ viewed (with_loads old loads)
    of_part = rw (append-nil old.said, append-nil old.made) refl

    refused : (name : Option (List ℕ)) (fault : LoadFault)
        → IsRefused (with_loads old loads) new name fault → IsRefused started (viewed new) name fault
    refused name load.Unread is =
        ap viewed is ∙ ap (λ (r : Run). with_unread r name) (sym of_part)
    refused name load.TooLong is = record {
      front = is.front;
      longer = is.longer;
      stopped = ap viewed is.stopped
          ∙ ap (λ (r : Run). with_too_long r (record { name = name; bytes = is.front })) (sym of_part);
    }
    refused name load.NoMemory is = ap viewed is ∙ sym of_part

    abbrev Leaves : Outside → Run → Run → Type 0
    Leaves = LeavesFiles (IsWrong request under loads) (names_read request)

    -- what the fault left, beside the output
    left : (why : Outside) (end : Option WriteFault) (is_flushed : Bool)
        → Leaves why (with_loads old loads) new → ((w : WriteFault) → why ≡ Unwritten w → ⊥)
        → (why ≢ Untraced → after ≡ before ++ front)
        → Leaves why started (seen_by why started (beside new after end is_flushed))
    left (Unread why) end is_flushed (name, named, is) other grown =
        (name, named, rw (grown (λ same. cc)) (refused name why is))
    left (Unwritten why) end is_flushed is other grown = absurd (other why refl)
    left (Unmade why is_partial) end is_flushed is other grown = absurd is
    left Wrong end is_flushed is other grown =
        (is.0, rw (grown (λ same. cc)) (ap viewed is.1 ∙ sym of_part))
    left Untraced end is_flushed is other grown = ap viewed is ∙ sym of_part
    left NoMemory end is_flushed is other grown =
        rw (grown (λ same. cc)) (ap viewed is ∙ sym of_part)

  abbrev Right : List ℕ → Type 0
  Right = IsRequested request under origin loads

  abbrev Halted : Option WriteFault → Bool → Outside → Type 0
  Halted end is_flushed why = IsHalted (fares_rule request under origin)
      (beside old before None flushed) (beside new after end is_flushed) why

  -- a prefix of a right text was written
  halted_by : (front : List ℕ) → (front ≡ []) ⊎ ((rest : List ℕ) × Right (front ++ rest))
      → (why : Outside) (end : Option WriteFault) (is_flushed : Bool)
      → (why ≡ Untraced → request.sorted ≡ true)
      → LeavesFiles (IsWrong request under loads) (names_read request) why (started front)
      (seen_by why (started front) (beside new after end is_flushed))
      → Halted end is_flushed why
  halted_by front right why end is_flushed late left = record {
    part = part front;
    partial = (refl, right);
    leaves = (late, left);
  }

  -- what a fault before any write leaves, or one that is no write
  halted_at : (why : Outside) (end : Option WriteFault) (is_flushed : Bool)
      → (why ≡ Untraced → request.sorted ≡ true)
      → LeavesFiles (IsWrong request under loads) (names_read request) why (with_loads old loads) new
      → ((w : WriteFault) → why ≡ Unwritten w → ⊥) → (why ≢ Untraced → after ≡ before)
      → Halted end is_flushed why
  halted_at why end is_flushed late is other kept =
      halted_by [] (inl refl) why end is_flushed late
      (left [] why end is_flushed is other (λ traced. kept traced ∙ sym (append-nil before)))

  -- what a write that failed leaves
  halted_write : (end : Option WriteFault) (is_flushed : Bool) → new ≡ with_loads old loads
      → (text : List ℕ) → Right text → (begins : Begins (Some before) (Some after) text)
      → Halted end is_flushed (of_write end)
  halted_write None is_flushed is text right begins =
      halted_by begins.front (inr (begins.rest, subst Right begins.whole right)) NoMemory None is_flushed
      (λ same. absurd (cc)) (left begins.front NoMemory None is_flushed is (λ w same. absurd (cc))
      (λ traced. begins.written))
  halted_write (Some why) is_flushed is text right begins =
      halted_by begins.front (inr (begins.rest, subst Right begins.whole right)) (Unwritten why)
      (Some why) is_flushed (λ same. absurd (cc))
      (rw begins.written (ap (λ (r : Run). with_cut r why)
      (ap (viewed begins.front) is ∙ sym (of_part begins.front))))

  -- what any fault leaves
  pub halted : (end : Option WriteFault) (is_flushed : Bool) (fault : Fault)
      → HasStopped (whole request under origin) loads fault old new
      → Stops Right (Some before) (Some after) fault → Halted end is_flushed (outside_of end fault)
  halted end is_flushed Write stopped (text, right, begins) =
      halted_write end is_flushed stopped.left text right begins
  halted end is_flushed (Late why) stopped stops =
      halted_at Untraced end is_flushed stopped.late stopped.left (λ w same. absurd (cc))
      (λ traced. absurd (traced refl))
  halted end is_flushed (Tables fault) stopped stops =
      halted_at (tables.outside_of fault) end is_flushed stopped.late stopped.left
      (never_unwritten fault) (λ traced. stops)
  halted end is_flushed (Unsorted name fault) stopped stops =
      halted_at (of_sorted fault) end is_flushed stopped.late stopped.left (sorted_unwritten fault)
      (λ traced. stops)
  halted end is_flushed (NoFile file) stopped stops =
      halted_at (Unread file.fault) end is_flushed stopped.late stopped.left (λ w same. absurd (cc))
      (λ traced. stops)
  halted end is_flushed _ stopped stops =
      halted_at _ end is_flushed stopped.late stopped.left (λ w same. absurd (cc)) (λ traced. stops)
