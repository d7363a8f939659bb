-- What a run gave, and more of it.
use Rattle.std.proofs.Common.{◌≡◌, ◌∙◌, ◌∷◌, ◌++◌, [], ℕ, List, None, Option, Some, ap, append-nil}
use Rattle.std.proofs.Common.{append_assoc, refl, subst, sym}
use Rattle.frame.specs.Given.{Given, IsPart, gave, nothing, with_files, with_loads}
use Rattle.frame.specs.{Given.with_note, Given.with_text, Outsides.IsStoppedIn, Outsides.Leaves}
use Rattle.frame.specs.declared.outside.Outside.{Outside, TheVariants.Unwritten}
use Rattle.std.specs.Io.KnownBytes.{Appends}
use Rattle.world.specs.Run.{Named, Run, with_cut, with_flushed, with_load, with_said}
use Rattle.world.specs.{Run.with_written, Writes.IsCut, declared.faults.WriteFault.WriteFault}

pub gave_nothing : (r : Run) → r ≡ gave r nothing
gave_nothing r =
    rw (append-nil r.loads, append-nil r.written, append-nil r.said, append-nil r.made) refl

-- ---- one step more
pub gave_load : (old new start : Run) (g : Given) (name : Option (List ℕ)) (bytes : List ℕ)
    → new ≡ with_load old name bytes → old ≡ gave start g
    → new ≡ gave start (with_loads g (record { name = name; bytes = bytes } ∷ []))
gave_load old new start g name bytes more is =
    more ∙ ap (λ r. with_load r name bytes) is ∙ ap (λ xs. record (gave start g) { loads = xs })
    (append_assoc start.loads g.loads (record { name = name; bytes = bytes } ∷ []))

pub gave_text : (old new start : Run) (g : Given) (piece : List ℕ) → new ≡ with_written old piece
    → old ≡ gave start g → new ≡ gave start (with_text g piece)
gave_text old new start g piece more is =
    more ∙ ap (λ r. with_written r piece) is
    ∙ ap (λ xs. record (gave start g) { written = xs }) (append_assoc start.written g.text piece)

pub gave_note : (old new start : Run) (g : Given) (piece : List ℕ) → new ≡ with_said old piece
    → old ≡ gave start g → new ≡ gave start (with_note g piece)
gave_note old new start g piece more is =
    more ∙ ap (λ r. with_said r piece) is
    ∙ ap (λ xs. record (gave start g) { said = xs }) (append_assoc start.said g.note piece)

-- ---- parts
pub part_self : (g : Given) → IsPart g g
part_self g = record {
  loads = refl;
  text = ([], sym (append-nil g.text));
  note = ([], sym (append-nil g.note));
  files = ([], sym (append-nil g.files));
}

pub part_text : (part whole : Given) (more : List ℕ) → IsPart part whole
    → IsPart part (with_text whole more)
part_text part whole more p = record {
  loads = p.loads;
  text = (p.text.0 ++ more, ap (λ t. t ++ more) p.text.1 ∙ append_assoc part.text p.text.0 more);
  note = p.note;
  files = p.files;
}

pub part_note : (part whole : Given) (more : List ℕ) → IsPart part whole
    → IsPart part (with_note whole more)
part_note part whole more p = record {
  loads = p.loads;
  text = p.text;
  note = (p.note.0 ++ more, ap (λ t. t ++ more) p.note.1 ∙ append_assoc part.note p.note.0 more);
  files = p.files;
}

pub part_files : (part whole : Given) (more : List Named) → IsPart part whole
    → IsPart part (with_files whole more)
part_files part whole more p = record {
  loads = p.loads;
  text = p.text;
  note = p.note;
  files = (
    p.files.0 ++ more,
    ap (λ t. t ++ more) p.files.1 ∙ append_assoc part.files p.files.0 more,
  );
}

-- ---- stops
-- nothing of what was to follow was given
pub stopped_at : (words : List (List ℕ)) (start old new : Run) (g : Given) (why : Outside)
    → old ≡ gave start g → Leaves words why old new → IsStoppedIn words start new g why
stopped_at words start old new g why is leaves = record {
  part = g;
  is_part = part_self g;
  leaves = subst (λ r. Leaves words why r new) is leaves;
}

pub stopped_write : (words : List (List ℕ)) (start old new : Run) (g : Given) (piece : List ℕ)
    (why : WriteFault) → IsCut old new piece why → old ≡ gave start g
    → IsStoppedIn words start new (with_text g piece) (Unwritten why)
stopped_write words start old new g piece why cut is = record {
  part = with_text g cut.front;
  is_part = record {
    loads = refl;
    text = (cut.rest, ap (λ t. g.text ++ t) cut.whole ∙ sym (append_assoc g.text cut.front cut.rest));
    note = (part_self g).note;
    files = (part_self g).files;
  };
  leaves = cut.prefix ∙ ap (λ r. with_cut r why)
      (gave_text old (with_written old cut.front) start g cut.front refl is);
}

-- the bytes of a file that was empty
pub known_whole : (a b : Option (List ℕ)) (file : List ℕ) → a ≡ Some [] → Appends a b file
    → b ≡ Some file
known_whole None b file is appends = cc
known_whole (Some old) None file is appends = absurd appends
known_whole (Some old) (Some bytes) file is appends =
    let none : old ≡ [] = cc in
    ap (λ b. Some b) (appends ∙ ap (λ o. o ++ file) none)

pub gave_no_files : (old start : Run) (g : Given) → old ≡ gave start g
    → old ≡ gave start (with_files g [])
gave_no_files old start g is =
    is ∙ ap (λ (fs : List Named). record (gave start g) { made = start.made ++ fs })
    (sym (append-nil g.files))

pub gave_flushed : (old mid new start : Run) (g : Given) (note : List ℕ) → mid ≡ with_flushed old
    → new ≡ with_said mid note → old ≡ gave start g
    → new ≡ with_flushed (gave start (with_note g note))
gave_flushed old mid new start g note flushed said is =
    said ∙ ap (λ r. with_said r note) flushed
    ∙ ap with_flushed (gave_note old (with_said old note) start g note refl is)
