-- How a run over files that are read in pieces ends.
use Rattle.std.proofs.Common.{◌≡◌, ◌∙◌, ◌⊎◌, ◌++◌, ◌∷◌, [], Err, List, Ok, Result, ap, append-nil}
use Rattle.std.proofs.Common.{inl, inr, refl, subst, ℕ}
use Rattle.frame.specs.{Given.gave, Outcome.IsHalted}
use Rattle.frame.specs.declared.outside.Outside.{Outside, TheVariants.NoMemory, TheVariants.Unmade}
use Rattle.frame.specs.declared.outside.Outside.TheVariants.{Unread, Untraced, Unwritten, Wrong}
use Rattle.part_texts.proofs.Written.{written_none}
use Rattle.recorded_lines.specs.Texts.{CanBe}
use Rattle.std.proofs.lemmas.List.Elements.{Contains-append_left}
use Rattle.std.specs.{Prelude.Vec, declared.alloc.Global.Global}
use Rattle.tool_tasks.specs.Streams.{CanStop, IsKept, Stream, stream_rule, with_stop, written_of}
use Rattle.tool_tasks.specs.{declared.stops.Halt.Halt, inside.Does.Does}
use Rattle.tool_tasks.specs.inside.Streams.{IsFinished, IsStreamed, IsUnopened}
use Rattle.world.specs.Run.{Calls, Run, with_cut, with_flushed, with_said, with_written}

pub all_read : (calls : Calls) (whole : List ℕ) → calls.run.loads ≡ calls.reading ∷ []
    → CanBe calls whole → whole ≡ calls.reading.bytes
all_read calls whole is can =
    can.begins ∙ ap (λ (l : List ℕ). calls.reading.bytes ++ l) (can.ends is)
    ∙ append-nil calls.reading.bytes

-- ---- what was given
gave_part : (r : Run) (text : List ℕ) → with_written r text ≡ gave r (written_of text [])
gave_part r text = rw (append-nil r.loads, append-nil r.said, append-nil r.made) refl

gave_noted : (r : Run) (text note : List ℕ)
    → with_said (with_flushed (with_written r text)) note
    ≡ with_flushed (gave r (written_of text note))
gave_noted r text note = rw (append-nil r.loads, append-nil r.made) refl

module _ (s : Stream) where
  halted : (old new : Run) (text : List ℕ) (why : Outside) → (text ≡ []) ⊎ s.Part text
      → CanStop s.Wrong s.words s.calls why → IsKept (with_stop (with_written old text) why) new
      → IsHalted (stream_rule s) old new why
  halted old new text why part can kept = record {
    part = written_of text [];
    partial = (refl, part);
    leaves = (can, subst (λ r. IsKept (with_stop r why) new) (gave_part old text) kept);
  }

  pub streamed : (old mid new : Run) (done : Result (Vec ℕ Global) Halt) (result : Result ℕ Halt)
      → IsStreamed s old mid done → IsFinished done mid new result
      → Does (stream_rule s) old new result
  streamed old mid new (Ok note) (Ok status) (text, is, part, whole) (zero, end) = record {
    given = written_of text note.items;
    right = (refl, whole, zero);
    all = end ∙ ap (λ r. with_said (with_flushed r) note.items) is
        ∙ gave_noted old text note.items;
  }
  streamed old mid new (Ok note) (Err halt) (text, is, part, whole) (fault, why, cut) =
      halted old new text halt.0 part (rw why tt)
      (rw why (inl (cut ∙ ap (λ r. with_cut r fault) is)))
  streamed old mid new (Err first) (Ok status) stops bad = absurd bad
  streamed old mid new (Err first) (Err halt) (text, part, can, left) (inl (why, kept)) =
      halted old new text halt.0 part (rw why can)
      (rw why (subst (λ r. IsKept r new) left kept))
  streamed old mid new (Err first) (Err halt) (text, part, can, left) (inr (fault, why, cut)) =
      halted old new text halt.0 part (rw why tt)
      (rw why (inl (cut ∙ ap (λ r. with_cut r fault) left)))

-- ---- files that were not opened
pub unopened : (truth : Type 0) (words : List (List ℕ)) (calls more : List Calls) (why : Outside)
    (run : Run) → IsUnopened words calls why → CanStop truth words (calls ++ more) why
    × (run ≡ with_stop (with_written run []) why)
unopened truth words calls more (Unread why) run (word, has, failed, in_calls, unread) = (
  (word, has, failed, Contains-append_left calls more failed in_calls, unread),
  written_none run,
)
unopened truth words calls more (Unwritten why) run bad = absurd bad
unopened truth words calls more (Unmade why is_partial) run bad = absurd bad
unopened truth words calls more Wrong run bad = absurd bad
unopened truth words calls more Untraced run bad = absurd bad
unopened truth words calls more NoMemory run none = (tt, written_none run)
