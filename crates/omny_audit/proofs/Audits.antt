-- What an audit has read, and what it may leave.
use Rattle.std.proofs.Common.{◌≡◌, ◌∙◌, ◌++◌, ℕ, Bool, true, false, List, [], ◌∷◌, Option, None}
use Rattle.std.proofs.Common.{Global, Some, Vec, ap, append-nil, append_assoc, inl, inr, refl}
use Rattle.std.proofs.Common.{subst, sym, ⊎_elim}
use Rattle.ledger_check.specs.{Columns.read_as, Lines.lines_of, Verdicts.IsVerdict}
use Rattle.omny_audit.proofs.TraceLemmas.{reads_more}
use Rattle.omny_audit.specs.{Ends.LeavesOf, Program.HoldsOfRead, Reports.Given, Reports.IsAuditText}
use Rattle.omny_audit.specs.{Traced.Wanted, declared.audit.Audit.Audit}
use Rattle.omny_audit.specs.declared.check.Check.{Check, TheVariants.First, TheVariants.All}
use Rattle.omny_audit.specs.declared.check.Found.{Found}
use Rattle.omny_audit.specs.declared.fault.Fault.{Fault, TheVariants.Unwritten}
use Rattle.omny_audit.specs.declared.traced.TracedPieces.{TracedPieces}
use Rattle.omny_audit.specs.inside.Audits.{EndsAs, GoesOn, HasAudited, HoldsNow, Steps, given_in}
use Rattle.omny_audit.specs.inside.Checks.{Finds, HasChecked, is_all, is_decided}
use Rattle.omny_audit.specs.inside.Program.{outside_of}
use Rattle.omny_audit.specs.inside.Traced.{HasReadAll, HasReadAs, wanted_by}
use Rattle.std.proofs.lemmas.Bool.{true≢false}
use Rattle.std.specs.Prelude.{◌⊎◌, ◌||◌, Err, Ok, is_some}
use Rattle.tap_views.specs.declared.encoder.TapFields.{TapFields}
use Rattle.tariffs.specs.Fares.{Fares}
use Rattle.world.proofs.Streams.{whole_at_end}
use Rattle.world.specs.Run.{Calls, Load, Run, with_cut, with_flushed, with_written}
use Rattle.world.specs.{Streams.HasRead, Writes.IsCut}
use Rattle.world.specs.declared.{faults.WriteFault.WriteFault, stream.Stream.Stream}

-- what the ledger is audited by stays the same
pub given_kept : (audit : Audit) (check : Check) (trace : Option TracedPieces)
    (text : Vec ℕ Global) (valid : List TapFields) → is_all check ≡ is_all audit.check
    → wanted_by trace ≡ wanted_by audit.trace
    → given_in (record audit { check = check; trace = trace; text = text }) valid
    ≡ given_in audit valid
given_kept audit check trace text valid all same =
    ap (λ (b : Bool). record (given_in audit valid) { all = b; wanted = wanted_by trace }) all
    ∙ ap (λ (w : Option Wanted). record (given_in audit valid) { wanted = w }) same

-- a check of all lines is never decided, nor is one that finds a legal ledger
pub undecided : (check : Check) (legal : Bool) → (is_decided check ≡ true → legal ≡ false)
    → (is_all check || legal) ≡ true → is_decided check ≡ false
undecided (First checker balance None) legal wrong looked = refl
undecided (First checker balance (Some verdict)) legal wrong looked =
    absurd (true≢false (sym looked ∙ wrong refl))
undecided (All full_check full) legal wrong looked = refl

-- what is not legal is not well
pub unsound : (all live : Bool) (fares : Fares) (text : List ℕ) (valid : Option (List TapFields))
    (reported : List ℕ) (found : Found) → Finds all live fares text valid reported found
    → found.is_legal ≡ false → found.is_sound ≡ false
unsound all live fares text valid reported found is wrong = by_sound found.is_sound refl
  where
    by_sound : (sound : Bool) → found.is_sound ≡ sound → sound ≡ false
    by_sound false same = refl
    by_sound true same = let right = is.sound.0 same in
        sym (is.legal.1 right.0) ∙ wrong

-- the first wrong line stays the first
checked_more : (fares : Fares) (subtracts : Bool) (valid : List TapFields) (check : Check)
    (text written rest : List ℕ) → HasChecked fares subtracts valid check text written
    → is_decided check ≡ true → HasChecked fares subtracts valid check (text ++ rest) written
checked_more fares subtracts valid (First checker balance None) text written rest has is = absurd cc
checked_more fares subtracts valid (First checker balance (Some verdict)) text written rest has is = (
  (
    λ more. subst (λ (t : List ℕ). IsVerdict fares t verdict) (sym (append_assoc text rest more))
        (has.0.0 (rest ++ more)),
    has.0.1,
  ),
  has.1,
)
checked_more fares subtracts valid (All full_check full) text written rest has is = absurd cc

-- what was read to the end was read whole
whole_as : (trace : Option TracedPieces) (file text : List ℕ) → HasReadAs trace true file text
    → (text ≡ read_as (is_some (wanted_by trace)) file) × HasReadAll trace file
whole_as None file text is = (is, tt)
whole_as (Some trace) file text is = is

-- what is checked of the ledger, at its end or after the first wrong line
pub ended : (given : Given) (audit : Audit) (whole : Bool) (file written more : List ℕ)
    (has : HasAudited given audit whole file written) → (whole || is_decided audit.check) ≡ true
    → (whole ≡ true → more ≡ [])
    → HasChecked audit.table.now audit.subtracts has.valid audit.check
    (read_as (is_some (wanted_by audit.trace)) (file ++ more)) written
    × (is_decided audit.check ≡ false → HasReadAll audit.trace (file ++ more))
ended given audit true file written more has last none =
    let all = ap (λ (t : List ℕ). file ++ t) (none refl) ∙ append-nil file in
    let (same, read) = whole_as audit.trace file has.text has.as_text in (
      subst (λ (f : List ℕ). HasChecked audit.table.now audit.subtracts has.valid audit.check
          (read_as (is_some (wanted_by audit.trace)) f) written) (sym all)
          (subst (λ (t : List ℕ). HasChecked audit.table.now audit.subtracts has.valid audit.check t
          written) same has.checked),
      λ open_still. subst (HasReadAll audit.trace) (sym all) read,
    )
ended given audit false file written more has last none =
    let rest = reads_more audit.trace file has.text has.as_text more in (
      subst (λ (t : List ℕ). HasChecked audit.table.now audit.subtracts has.valid audit.check t
          written) (sym rest.1) (checked_more audit.table.now audit.subtracts has.valid audit.check
          has.text written rest.0 has.checked last),
      λ no. absurd (true≢false (sym last ∙ no)),
    )

-- ---- what may be left
-- nothing was reported, or what may be of what reads gave of the ledger, however it goes on
abbrev pub MayBeLeft : Given → Calls → List ℕ → Type 0
MayBeLeft given ledger text =
    (text ≡ []) ⊎ HoldsOfRead ledger (λ file. IsAuditText given file text)

-- the remarks on the first lines, before a piece
remarked : (given : Given) (audit : Audit) (ledger : Calls) (file piece written : List ℕ)
    → ledger.reading.bytes ≡ file ++ piece → HasAudited given audit false file written
    → MayBeLeft given ledger written
remarked given audit ledger file piece written read has =
    subst (λ (g : Given). MayBeLeft g ledger written) has.same
    (by_check audit.check refl has.checked)
  where
    by_check : (check : Check) → audit.check ≡ check
        → HasChecked audit.table.now audit.subtracts has.valid check has.text written
        → MayBeLeft (given_in audit has.valid) ledger written
    by_check (First checker balance verdict) same checked = inl checked.1
    by_check (All full_check full) same checked = inr (λ more end.
        let left = reads_more audit.trace file has.text has.as_text (piece ++ more) in
        subst (λ (f : List ℕ). IsAuditText (given_in audit has.valid) f written)
        (sym (append_assoc file piece more) ∙ ap (λ (f : List ℕ). f ++ more) (sym read)) (inr (
          ap is_all same,
          checked.taken,
          record {
            are = checked.fed.lines.are;
            rest = lines_of (checked.fed.started ++ left.0);
            split = ap lines_of left.1 ∙ checked.fed.split left.0;
          },
          checked.reported,
        )))

left_now : (given : Given) (audit : Audit) (ledger : Calls) (text : List ℕ) (ended : Option Bool)
    → HoldsNow given audit ledger text ended → MayBeLeft given ledger text
left_now given audit ledger text None has =
    remarked given audit ledger ledger.reading.bytes [] text (sym (append-nil ledger.reading.bytes))
    has
left_now given audit ledger text (Some success) found =
    inr (λ more end. inl (success, found.0 more end))

no_front : (front rest : List ℕ) → front ++ rest ≡ [] → front ≡ []
no_front [] rest is = refl
no_front (byte ∷ front) rest is = absurd cc

-- a prefix of it was written
failed : (given : Given) (ledger : Calls) (old new : Run) (text front rest : List ℕ) (fault : Fault)
    → MayBeLeft given ledger text → text ≡ front ++ rest
    → LeavesOf ⊥ [] ledger.reading.name ledger (outside_of fault) (with_written old front) new
    → EndsAs given ledger old new (Err fault)
failed given ledger old new text front rest fault left whole leaves = record {
  front = front;
  rest = rest;
  right = ⊎_elim (λ none. inl (no_front front rest (sym whole ∙ none)))
      (λ right. inr (subst (λ (t : List ℕ). HoldsOfRead ledger (λ f. IsAuditText given f t)) whole
      right)) left;
  leaves = leaves;
}

-- ---- the audit, piece by piece
pub record SoFar (given : Given) (audit : Audit) (file : List ℕ) (old new : Run) : Type 0 where
  pub written : List ℕ
  pub has : HasAudited given audit false file written
  pub wrote : new ≡ with_written old written

written_after : (r now : Run) (xs ys : List ℕ) → now ≡ with_written r xs
    → with_written now ys ≡ with_written r (xs ++ ys)
written_after r now xs ys is =
    ap (λ (x : Run). with_written x ys) is
    ∙ ap (λ all. record r { written = all }) (append_assoc r.written xs ys)

-- an audit that fails before a piece
pub interrupted : {given : Given} {audit : Audit} {file : List ℕ} {old new : Run}
    → SoFar given audit file old new → (piece : List ℕ) (ledger : Calls) (fault : Fault)
    → ledger.reading.bytes ≡ file ++ piece
    → LeavesOf ⊥ [] ledger.reading.name ledger (outside_of fault) new new
    → EndsAs given ledger old new (Err fault)
interrupted {given} {audit} {file} {old} {new} was piece ledger fault read leaves =
    failed given ledger old new was.written was.written [] fault
    (remarked given audit ledger file piece was.written read was.has) (sym (append-nil was.written))
    (subst (λ r. LeavesOf ⊥ [] ledger.reading.name ledger (outside_of fault) r new) was.wrote leaves)

module _ {given : Given} {before after : Audit} {file piece text : List ℕ} {old now : Run}
    {ended : Option Bool} {ledger : Stream} {name : Option (List ℕ)}
    (was : SoFar given before file old now) (steps : Steps before after piece text ended)
    (read : HasRead ledger name (file ++ piece)) (whole : piece ≡ [] → ledger.from ≡ None) where
  bytes : ledger.trace.reading.bytes ≡ file ++ piece
  bytes = ap (λ (x : Load). x.bytes) read.reading

  holds_now : HoldsNow given after ledger.trace (was.written ++ text) ended
  holds_now = steps.holds given file was.written ledger.trace was.has bytes
      (λ none. whole_at_end ledger name (file ++ piece) read (whole none))

  -- an audit that goes on after a piece
  pub went_on : (new : Run) → ended ≡ None → new ≡ with_written now text
      → SoFar given after (file ++ piece) old new
  went_on new none wrote = record {
    written = was.written ++ text;
    has = subst (λ (f : List ℕ). HasAudited given after false f (was.written ++ text)) bytes
        (subst (HoldsNow given after ledger.trace (was.written ++ text)) none holds_now);
    wrote = wrote ∙ written_after old now was.written text was.wrote;
  }

  -- all that is found was written and flushed
  pub all_found : (new : Run) (success : Bool) → ended ≡ Some success
      → new ≡ with_flushed (with_written now text)
      → EndsAs given ledger.trace old new (Ok success)
  all_found new success is wrote = (
    was.written ++ text,
    subst (HoldsNow given after ledger.trace (was.written ++ text)) is holds_now,
    wrote ∙ ap with_flushed (written_after old now was.written text was.wrote),
  )

  -- a write failed
  pub cut_off : (new : Run) (why : WriteFault) → IsCut now new text why
      → EndsAs given ledger.trace old new (Err (Unwritten why))
  cut_off new why cut =
      failed given ledger.trace old new (was.written ++ text) (was.written ++ cut.front) cut.rest
      (Unwritten why) (left_now given after ledger.trace (was.written ++ text) ended holds_now)
      (ap (λ (t : List ℕ). was.written ++ t) cut.whole
      ∙ sym (append_assoc was.written cut.front cut.rest))
      (inl (cut.prefix ∙ ap (λ (r : Run). with_cut r why)
      (written_after old now was.written cut.front was.wrote)))

  -- all was written, and the flush failed
  pub unflushed : (new : Run) (why : WriteFault) → new ≡ with_cut (with_written now text) why
      → EndsAs given ledger.trace old new (Err (Unwritten why))
  unflushed new why cut = cut_off new why
      (record { front = text; rest = []; whole = sym (append-nil text); prefix = cut })

-- ---- the reads of the ledger
-- what was read so far goes on
pub went_further : {start before : Stream} {head : List ℕ} (after : Stream)
    (name : Option (List ℕ)) (bytes piece : List ℕ) → GoesOn start before head
    → before.trace.reading ≡ record { name = name; bytes = bytes }
    → after.trace.reading ≡ record { name = name; bytes = bytes ++ piece }
    → (before.from ≡ None → after ≡ before) → GoesOn start after head
went_further {start} {before} {head} after name bytes piece goes was read same = record {
  name = ap (λ (x : Load). x.name) read ∙ sym (ap (λ (x : Load). x.name) was) ∙ goes.name;
  rest = goes.rest ++ piece;
  begins = ap (λ (x : Load). x.bytes) read
      ∙ ap (λ (t : List ℕ). t ++ piece) (sym (ap (λ (x : Load). x.bytes) was) ∙ goes.begins)
      ∙ append_assoc head goes.rest piece;
  ended = λ none. same (ap (λ (s : Stream). s.from) (goes.ended none) ∙ none) ∙ goes.ended none;
}
