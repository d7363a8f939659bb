use Rattle.std.proofs.Common.{◌∙◌, ◌++◌, [], List, Option, ap, append-nil, inl, inr, refl, sym, ℕ}
use Rattle.frame.proofs.Giving.{gave_load, gave_note}
use Rattle.std.proofs.lemmas.Result.{err_from_is_err_and}
use Rattle.std.specs.Prelude.{is_none}
use Rattle.tap_views.specs.declared.fault.LayoutFault.{LayoutFault}
use Rattle.tool_tasks.proofs.Decoding.{decoded_of, stopped_loaded}
use Rattle.world.specs.Run.{Run}
use Rattle.tool_tasks.proofs.decode.decode_one.Goals as goal

pub returns-in_err-upload-clause-stopped : goal.returns-in_err-upload-clause-stopped
returns-in_err-upload-clause-stopped g c = λ words has.
    let e = err_from_is_err_and c.from_residual.result c.from_residual.ensures.1 in
    rw (e.1, e.2) (inl (c.in_err-upload.ensures.stopped words has))

pub returns-in_err-fault-clause-stopped : goal.returns-in_err-fault-clause-stopped
returns-in_err-fault-clause-stopped g c = λ words has.
    let e = err_from_is_err_and c.from_residual-in_err-fault.result
    c.from_residual-in_err-fault.ensures.1 in
    let (rows, fault, decoded) = c.in_err-fault.ensures.has_rows in
    let one = decoded_of c.args.word.now c.in_ok-upload.upload.items _ rows rows fault
    c.deref.ensures.value refl decoded in
    rw (e.1, e.2) (inr (one, refl, stopped_loaded words _ _ one c.in_ok-upload.ensures.loaded))

pub returns-in_err-write-clause-stopped : goal.returns-in_err-write-clause-stopped
returns-in_err-write-clause-stopped g c = λ words has.
    let e = err_from_is_err_and c.from_residual-in_err-write.result
    c.from_residual-in_err-write.ensures.1 in
    let (rows, decoded, appended) = c.in_ok-fault.ensures.rows in
    let one = decoded_of c.args.word.now c.in_ok-upload.upload.items _ c.deref-2.result.now rows
    c.in_ok-fault.fault c.deref.ensures.value (c.deref-2.ensures.value ∙ appended
    ∙ ap (λ (t : List ℕ). t ++ rows) c.new-rows.ensures.items) decoded in
    rw (e.1, e.2) (inr (
      one,
      refl,
      λ start g' is. c.in_err-write.ensures.stopped words start _
          (gave_load _ _ start g' _ _ c.in_ok-upload.ensures.loaded is),
    ))

pub returns-in-None-clause-decoded : goal.returns-in-None-clause-decoded
returns-in-None-clause-decoded g c =
    let (rows, decoded, appended) = c.in_ok-fault.ensures.rows in
    let one = decoded_of c.args.word.now c.in_ok-upload.upload.items _ c.deref-2.result.now rows
    c.in_ok-fault.fault c.deref.ensures.value (c.deref-2.ensures.value ∙ appended
    ∙ ap (λ (t : List ℕ). t ++ rows) c.new-rows.ensures.items) decoded in
    let run : Run = g.W.Inputs.run c.write.new.world in (
      one,
      refl,
      ap (λ (f : Option (ℕ × LayoutFault)). is_none f) c.in-None.is,
      [],
      λ start g' is. gave_note run run start _ []
          (ap (λ (s : List ℕ). record run { said = s }) (sym (append-nil run.said)))
          (c.in_ok-write.ensures.written start _
          (gave_load _ _ start g' _ _ c.in_ok-upload.ensures.loaded is)),
    )

pub returns-clause-decoded : goal.returns-clause-decoded
returns-clause-decoded g c =
    let (rows, decoded, appended) = c.in_ok-fault.ensures.rows in
    let said = c.report_line.ensures.said in
    let one = decoded_of c.args.word.now c.in_ok-upload.upload.items _ c.deref-2.result.now rows
    c.in_ok-fault.fault c.deref.ensures.value (c.deref-2.ensures.value ∙ appended
    ∙ ap (λ (t : List ℕ). t ++ rows) c.new-rows.ensures.items) decoded in (
      one,
      refl,
      ap (λ (f : Option (ℕ × LayoutFault)). is_none f) c.in-Some.is,
      said.text,
      λ start g' is. gave_note _ _ start _ said.text said.only (c.in_ok-write.ensures.written start _
          (gave_load _ _ start g' _ _ c.in_ok-upload.ensures.loaded is)),
    )
