-- One part, read line by line.
use Rattle.std.proofs.Common.{◌≡◌, ◌∙◌, ◌+◌, ℕ, Bool, true, false, List, [], ◌∷◌, ◌++◌, Some, None}
use Rattle.std.proofs.Common.{Result, Ok, Err, ap, append-nil, append_assoc, length, refl, subst}
use Rattle.std.proofs.Common.{sym}
use Rattle.line_folds.specs.Folds.{bounded, carry, run}
use Rattle.part_texts.proofs.Written.{cut_on, written_none, written_on}
use Rattle.part_texts.specs.FrontSteps.{front_step, is_over, part_end}
use Rattle.part_texts.specs.{Fronts.FrontsView, Merged.ended, Reads.Leaves}
use Rattle.part_texts.specs.declared.fault.MergeFault.{MergeFault}
use Rattle.part_texts.specs.inside.Opened.{IsPartFault, IsRead, copied, lines_at, piece}
use Rattle.recorded_lines.proofs.Reading.{follows_on, follows_self}
use Rattle.recorded_lines.specs.Texts.{CanBe, Follows, IsEndAt, calls_of}
use Rattle.recorded_lines.specs.declared.text.Lines.{Lines}
use Rattle.report_texts.specs.declared.wrong.Wrong.{Wrong, TheVariants.Form}
use Rattle.std.specs.Prelude.{nat_lt}
use Rattle.world.specs.Run.{Run, with_written}
use Rattle.world.specs.{Writes.IsCut, declared.faults.WriteFault.WriteFault}
use Rattle.part_texts.specs.declared.fault.MergeFault.TheVariants as fault

abbrev pub part_run : Bool → ℕ → FrontsView → List (List ℕ)
    → Result (ℕ × FrontsView × List (List ℕ)) (ℕ × Wrong)
part_run is_copied = run (is_over is_copied) (bounded Form front_step)

pub stopped : (is_copied : Bool) (number : ℕ) (s : FrontsView) (lines : List (List ℕ))
    → is_over is_copied s ≡ true → part_run is_copied number s lines ≡ Ok (number, s, lines)
stopped is_copied number s [] over = refl
stopped is_copied number s (line ∷ lines) over = rw over

-- What is left of the lines says what all of them say, and what was read of them is written, if
-- they are copied.
pub record IsReading (is_copied : Bool) (first now : FrontsView) (start from : Lines)
    (one number : ℕ) (before after : Run) : Type 0 where
  pub follows : Follows start from
  pub text : List ℕ
  pub wrote : after ≡ with_written before text
  pub same : (whole : List ℕ) → CanBe (calls_of from) whole
      → part_run is_copied one first (lines_at start whole)
      ≡ part_run is_copied number now (lines_at from whole)
  pub lines : (whole : List ℕ) → CanBe (calls_of from) whole
      → copied is_copied (lines_at start whole) ≡ text ++ copied is_copied (lines_at from whole)

pub at_start : (is_copied : Bool) (s : FrontsView) (from : Lines) (number : ℕ) (r : Run)
    → IsReading is_copied s s from from number number r r
at_start is_copied s from number r = record {
  follows = follows_self from;
  text = [];
  wrote = written_none r;
  same = λ whole can. refl;
  lines = λ whole can. refl;
}

-- where no more lines are to be read, none are copied
none_copied : (is_copied : Bool) (s : FrontsView) (lines : List (List ℕ))
    → is_over is_copied s ≡ true → copied is_copied lines ≡ []
none_copied true s lines over = absurd (cc)
none_copied false s lines over = refl

not_copied : (is_copied : Bool) (s : FrontsView) → is_over is_copied s ≡ true → ¬ (is_copied ≡ true)
not_copied true s over is = absurd (cc)
not_copied false s over is = absurd (cc)

first_copied : (is_copied : Bool) (line : List ℕ) (lines : List (List ℕ))
    → copied is_copied (line ∷ lines) ≡ piece is_copied line ++ copied is_copied lines
first_copied true line lines = refl
first_copied false line lines = refl

no_lines : (is_copied : Bool) → copied is_copied [] ≡ []
no_lines true = refl
no_lines false = refl

module _ {is_copied : Bool} {first now : FrontsView} {start from : Lines} {one number : ℕ}
    {before after : Run} (at : IsReading is_copied first now start from one number before after)
    (position : ℕ) where
  -- no more lines are to be read
  pub read_over : is_over is_copied now ≡ true
      → IsRead is_copied (position, one) first now start from before after (Ok number)
  read_over over = (
    at.follows,
    at.text,
    at.wrote,
    λ is. absurd (not_copied is_copied now over is),
    λ whole can. (
      ap (ended is_copied position) (at.same whole can
          ∙ stopped is_copied number now (lines_at from whole) over) ∙ rw over,
      at.lines whole can ∙ ap (λ l. at.text ++ l) (none_copied is_copied now (lines_at from whole) over)
          ∙ append-nil at.text,
    ),
  )

  module _ {next : Lines} (on : Follows from next) where
    -- no more lines are left
    pub read_whole : is_over is_copied now ≡ false → part_end now ≡ None → IsEndAt next
        → ((whole : List ℕ) → CanBe (calls_of next) whole
        → (lines_at from whole ≡ []) × (lines_at next whole ≡ []))
        → IsRead is_copied (position, one) first now start next before after (Ok number)
    read_whole goes is end none = (
      follows_on start from next at.follows on,
      at.text,
      at.wrote,
      λ _. end,
      λ whole can.
          let (left, after) = none whole can in (
            ap (ended is_copied position) (at.same whole (on.back whole can))
                ∙ rw (left, goes, is, after),
            at.lines whole (on.back whole can)
                ∙ ap (λ l. at.text ++ l) (ap (copied is_copied) left ∙ no_lines is_copied)
                ∙ append-nil at.text,
          ),
    )

    -- a fault between two lines
    pub read_to : (why : MergeFault) → ((r : Run) → Leaves why r r)
        → ((whole : List ℕ) → CanBe (calls_of next) whole
        → IsPartFault (ended is_copied position (part_run is_copied number now (lines_at from whole)))
        position (calls_of next) why)
        → IsRead is_copied (position, one) first now start next before after (Err why)
    read_to why none is = (
      follows_on start from next at.follows on,
      at.text,
      subst (λ r. Leaves why r after) at.wrote (none after),
      λ whole can. (
        subst (λ r. IsPartFault r position (calls_of next) why)
            (sym (ap (ended is_copied position) (at.same whole (on.back whole can)))) (is whole can),
        copied is_copied (lines_at from whole),
        at.lines whole (on.back whole can),
      ),
    )

    -- the lines end where they may not
    pub read_short : (why : Wrong) → is_over is_copied now ≡ false → part_end now ≡ Some why
        → ((whole : List ℕ) → CanBe (calls_of next) whole
        → (lines_at from whole ≡ []) × (lines_at next whole ≡ []))
        → IsRead is_copied (position, one) first now start next before after
        (Err (fault.Line position number why))
    read_short why goes is none =
        read_to (fault.Line position number why) (λ r. refl)
        (λ whole can. rw ((none whole can).0, goes, is))

    -- a line that is too long
    pub read_long : is_over is_copied now ≡ false
        → ((whole : List ℕ) → CanBe (calls_of next) whole → (long : List ℕ) × (more : List (List ℕ))
        × (lines_at from whole ≡ long ∷ more) × (nat_lt 1024 (length long) ≡ true))
        → IsRead is_copied (position, one) first now start next before after
        (Err (fault.Line position number Form))
    read_long goes long =
        read_to (fault.Line position number Form) (λ r. refl)
        (λ whole can. let (line, more, shown, far) = long whole can in rw (shown, goes, far))

    module _ {line : List ℕ} {said : Result FrontsView Wrong} (goes : is_over is_copied now ≡ false)
        (taken : front_step now line ≡ said)
        (read : (whole : List ℕ) → CanBe (calls_of next) whole
        → (lines_at from whole ≡ line ∷ lines_at next whole)
        × (nat_lt 1024 (length line) ≡ false)) where
      run_line : (whole : List ℕ) → CanBe (calls_of next) whole
          → part_run is_copied number now (lines_at from whole)
          ≡ carry (λ then. part_run is_copied (number + 1) then (lines_at next whole))
          (λ why. (number, why)) said
      run_line whole can = let (shown, short) = read whole can in rw (shown, goes, short, taken)

      line_copied : (whole : List ℕ) → CanBe (calls_of next) whole
          → copied is_copied (lines_at start whole)
          ≡ at.text ++ (piece is_copied line ++ copied is_copied (lines_at next whole))
      line_copied whole can =
          at.lines whole (on.back whole can)
          ∙ ap (λ l. at.text ++ l) (ap (copied is_copied) (read whole can).0
          ∙ first_copied is_copied line (lines_at next whole))

      -- the line is wrong
      pub read_wrong : (why : Wrong) → said ≡ Err why
          → IsRead is_copied (position, one) first now start next before after
          (Err (fault.Line position number why))
      read_wrong why is =
          read_to (fault.Line position number why) (λ r. refl)
          (λ whole can. ap (ended is_copied position) (run_line whole can
          ∙ ap (carry (λ then. part_run is_copied (number + 1) then (lines_at next whole))
          (λ why. (number, why))) is))

      -- the write failed
      pub read_cut : {now_after : Run} (why : WriteFault)
          → IsCut after now_after (piece is_copied line) why
          → IsRead is_copied (position, one) first now start next before now_after
          (Err (fault.Write why))
      read_cut {now_after = now_after} why cut = (
        follows_on start from next at.follows on,
        at.text ++ cut.front,
        cut_on before after now_after at.text (piece is_copied line) why at.wrote cut,
        λ whole can. (
          tt,
          cut.rest ++ copied is_copied (lines_at next whole),
          line_copied whole can ∙ rw cut.whole (simp append_assoc),
        ),
      )

      -- one line more
      pub read_more : {then : FrontsView} {now_after : Run} → said ≡ Ok then
          → now_after ≡ with_written after (piece is_copied line)
          → IsReading is_copied first then start next one (number + 1) before now_after
      read_more {then = then} {now_after = now_after} is more = record {
        follows = follows_on start from next at.follows on;
        text = at.text ++ piece is_copied line;
        wrote = written_on before after now_after at.text (piece is_copied line) at.wrote more;
        same = λ whole can. at.same whole (on.back whole can) ∙ run_line whole can
            ∙ ap (carry (λ then. part_run is_copied (number + 1) then (lines_at next whole))
            (λ why. (number, why))) is;
        lines = λ whole can. line_copied whole can
            ∙ sym (append_assoc at.text (piece is_copied line) _);
      }
