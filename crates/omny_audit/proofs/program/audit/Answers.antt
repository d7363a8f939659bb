use Rattle.std.proofs.Common.{◌≡◌, ◌∙◌, ◌++◌, ℕ, Bor, List, Option, [], ap, inl, inr, length, map, not}
use Rattle.std.proofs.Common.{option_map, refl, subst, sym}
use Rattle.frame.proofs.Outcomes.{loads_more}
use Rattle.frame.specs.declared.outside.Outside.TheVariants.{NoMemory}
use Rattle.ledger_check.specs.{Columns.has_traced_head, Positions.uploads_of}
use Rattle.omny_audit.proofs.ProgramLemmas.{compared_as, ends_audit, halted_now, halted_report}
use Rattle.omny_audit.proofs.ProgramLemmas.{halted_tables, halted_uploads, handed, headed, named_none}
use Rattle.omny_audit.specs.{Ends.NamesUnplainClass, Ends.audit_rule, Options.has_uploads}
use Rattle.omny_audit.specs.Program.{AreWanted, HasLoaded, given_of, taps_in}
use Rattle.omny_audit.specs.inside.{Audits.text_of, Program.audit_request_of, Program.outside_of}
use Rattle.omny_audit.specs.inside.Traced.{uploads_in, wanted_by}
use Rattle.std.proofs.lemmas.List.{length-map}
use Rattle.std.specs.{Bool.then_some, Prelude.nat_eq}
use Rattle.tap_views.specs.declared.{encoder.TapFields.TapFields, upload_end.UploadEnd.UploadEnd}
use Rattle.world.specs.{Origins.with_loads, Run.Load, Run.Run}
use Rattle.omny_audit.proofs.program.audit.Goals as goal

-- what one step after another loaded
loaded_all : (start first second new : Run) (xs ys zs : List Load) → first ≡ with_loads start xs
    → second ≡ with_loads first ys → new ≡ with_loads second zs
    → new ≡ with_loads start (xs ++ (ys ++ zs))
loaded_all start first second new xs ys zs is then last =
    loads_more start first new xs (ys ++ zs) is (loads_more first second new ys zs then last)

pub returns-in-Err : goal.returns-in-Err
returns-in-Err g c = halted_tables (audit_request_of c.args.options.now) c.args.ledger.now.trace
    (g.W.Inputs.run c.args.world.now) (g.W.Inputs.run c.load_tables.new.source) c.in-Err.fault
    c.in-Err.ensures.right

pub returns-in_default : goal.returns-in_default
returns-in_default g c = halted_now (audit_request_of c.args.options.now) c.args.ledger.now.trace
    (g.W.Inputs.run c.args.world.now) (g.W.Inputs.run c.load_tables.new.source)
    c.in-Ok.ensures.ok.loads c.in-Ok.ensures.ok.only ⊥ NoMemory (λ none. absurd none) (inl refl)

pub returns-in_err-uploads : goal.returns-in_err-uploads
returns-in_err-uploads g c =
    let request = audit_request_of c.args.options.now in
    let ledger = c.args.ledger.now.trace in
    let start = g.W.Inputs.run c.args.world.now in
    let tables = c.in-Ok.ensures.ok in
    let new = g.W.Inputs.run c.load_uploads.new.source in
    let fault = c.in_err-uploads.field-0.0 in
    handed (audit_rule request ledger) start new c.from_residual.result fault
    c.from_residual.ensures.1
    (halted_uploads request ledger start (g.W.Inputs.run c.load_tables.new.source) tables.loads
    tables.only new fault (rw c.as_slice-names.ensures.value at c.in_err-uploads.ensures.fault))

pub returns-in_err-report : goal.returns-in_err-report
returns-in_err-report g c =
    let request = audit_request_of c.args.options.now in
    let ledger = c.args.ledger.now.trace in
    let start = g.W.Inputs.run c.args.world.now in
    let tables = c.in-Ok.ensures.ok in
    let uploads = c.in_ok-uploads.ensures.ok in
    let new = g.W.Inputs.run c.load_report.new.source in
    let fault = c.in_err-report.field-0.0 in
    handed (audit_rule request ledger) start new c.from_residual-in_err-report.result fault
    c.from_residual-in_err-report.ensures.1
    (halted_report request ledger start (g.W.Inputs.run c.load_uploads.new.source)
    (tables.loads ++ uploads.0)
    (loads_more start (g.W.Inputs.run c.load_tables.new.source)
    (g.W.Inputs.run c.load_uploads.new.source) tables.loads uploads.0 tables.only uploads.1) new fault
    c.in_err-report.ensures.fault)

pub returns-in_err-head : goal.returns-in_err-head
returns-in_err-head g c =
    let request = audit_request_of c.args.options.now in
    let ledger = c.read_head.new.ledger.trace in
    let start = g.W.Inputs.run c.args.world.now in
    let tables = c.in-Ok.ensures.ok in
    let uploads = c.in_ok-uploads.ensures.ok in
    let report = c.in_ok-report.ensures.ok in
    let new = g.W.Inputs.run c.load_report.new.source in
    let fault = c.in_err-head.field-0.0 in
    handed (audit_rule request ledger) start new c.from_residual-in_err-head.result fault
    c.from_residual-in_err-head.ensures.1
    (halted_now request ledger start new (tables.loads ++ (uploads.0 ++ report.0))
    (loaded_all start _ _ new tables.loads uploads.0 report.0 tables.only uploads.1 report.1)
    ⊥ (outside_of fault) (λ none. absurd none) (c.in_err-head.ensures.fault new))

pub returns-in_err-trace : goal.returns-in_err-trace
returns-in_err-trace g c =
    let request = audit_request_of c.args.options.now in
    let ledger = c.read_head.new.ledger.trace in
    let start = g.W.Inputs.run c.args.world.now in
    let tables = c.in-Ok.ensures.ok in
    let uploads = c.in_ok-uploads.ensures.ok in
    let report = c.in_ok-report.ensures.ok in
    let texts = map (λ t. t.items) c.in-Ok.tables.texts.items in
    let new = g.W.Inputs.run c.load_report.new.source in
    let fault = c.in_err-trace.field-0.0 in
    handed (audit_rule request ledger) start new c.from_residual-in_err-trace.result fault
    c.from_residual-in_err-trace.ensures.1
    (halted_now request ledger start new (tables.loads ++ (uploads.0 ++ report.0))
    (loaded_all start _ _ new tables.loads uploads.0 report.0 tables.only uploads.1 report.1)
    (NamesUnplainClass texts) (outside_of fault)
    (λ names. inr (inr (record {
      texts = texts;
      fares = c.in-Ok.tables.fares;
      first = tables.loads;
      rest = uploads.0 ++ report.0;
      split = refl;
      are = tables.are;
      names = names;
    }))) (inl (c.in_err-trace.ensures.fault new)))

pub trace_of-requires-clause-loaded : goal.trace_of-requires-clause-loaded
trace_of-requires-clause-loaded g c = (_, c.in-Ok.ensures.ok.are)

pub trace_of-requires-clause-positions : goal.trace_of-requires-clause-positions
trace_of-requires-clause-positions g c =
    rw c.then_some-kept.ensures (named_none (not c.is_empty-has_uploads.result)
    c.in_ok-uploads.uploads.positions _ c.in_ok-uploads.ensures.ok.5.positions)

pub audit_over-requires-clause-audited : goal.audit_over-requires-clause-audited
audit_over-requires-clause-audited g c = (
  _,
  record {
    valid = taps_in c.in_ok-uploads.ensures.ok.3;
    same = refl;
    clock = c.in-Ok-clock.ensures.zone;
    text = [];
    as_text = c.in_ok-trace.ensures.read;
    checked = c.new.ensures.checked c.in-Ok.tables.fares _ _ c.in_ok-uploads.ensures.ok.5.balance;
  },
)

pub audit_over-requires-clause-read : goal.audit_over-requires-clause-read
audit_over-requires-clause-read g c = (_, c.in_ok-head.ensures.read)

-- the tables, the uploads and the report were loaded, and then the ledger was audited
pub returns : goal.returns
returns g c =
    let options = c.args.options.now in
    let request = audit_request_of options in
    let tables = c.in-Ok.tables in
    let uploads = c.in_ok-uploads.uploads in
    let loaded = rw c.as_slice-names.ensures.value at c.in_ok-uploads.ensures.ok in
    let has = not c.is_empty-has_uploads.result in
    let same : has ≡ has_uploads request = ap not (c.is_empty-has_uploads.ensures
    ∙ ap (λ (ns : List (Bor (List ℕ))). nat_eq (length ns) 0) c.as_slice-names.ensures.value
    ∙ ap (λ n. nat_eq n 0) (sym (length-map options.uploads.items (λ (n : Bor (List ℕ)). n.now))))
    in
    let texts = map (λ t. t.items) tables.texts.items in
    let head = c.in_ok-head.head.items in
    let trace = wanted_by c.in_ok-trace.trace in
    let kept = ap uploads_in c.then_some-kept.ensures
    ∙ compared_as uploads_of has uploads.positions
    ∙ ap (λ (l : List (List TapFields)). then_some has l) loaded.5.positions.taps
    ∙ ap (λ b. then_some b loaded.3) same in
    let known = ap (λ (e : Option (Bor (List UploadEnd))). option_map (λ e. e.now) e)
    c.then_some.ensures
    ∙ compared_as (λ (e : Bor (List UploadEnd)). e.now) has c.as_slice.result
    ∙ ap (λ (e : List UploadEnd). then_some has e) c.as_slice.ensures.value
    ∙ ap (λ b. then_some b uploads.ends.items) same in
    let goes = c.audit_over.ensures.goes in
    let start = g.W.Inputs.run c.args.world.now in
    let former = c.in-Ok.ensures.ok in
    let last = c.in_ok-report.ensures.ok in
    let mid = g.W.Inputs.run c.load_report.new.source in
    let ledger = c.audit_over.new.ledger.trace in
    let loads = former.loads ++ (loaded.0 ++ last.0) in
    let only = loaded_all start _ _ mid former.loads loaded.0 last.0 former.only loaded.1 last.1 in
    let files : HasLoaded request loads ledger = record {
      of_tables = former.loads;
      of_uploads = loaded.0;
      of_report = last.0;
      are = refl;
      fares = tables.fares;
      texts = texts;
      loads_tables = former.are;
      uploads = loaded.2;
      loads_uploads = loaded.4;
      lists = loaded.3;
      are_lists = loaded.5.are_lists;
      report = text_of c.in_ok-report.report;
      loads_report = last.2;
      ends = uploads.ends.items;
      are_ends = loaded.5.ends;
      reads_ledger = goes.name ∙ ap (λ (x : Load). x.name) c.in_ok-head.ensures.read.reading;
      traced = has_traced_head head;
      is_traced = headed c.read_head.new.ledger c.audit_over.new.ledger _ head
          c.in_ok-head.ensures.read c.in_ok-head.ensures.enough goes;
      wanted = trace;
      are_wanted = subst (λ (u : Option (List (List TapFields))). AreWanted tables.fares texts
          (has_traced_head head) u trace) kept (subst (λ (h : List ℕ). AreWanted tables.fares texts
          (has_traced_head h) (uploads_in c.then_some-kept.result) trace) c.deref.ensures.value
          c.in_ok-trace.ensures.wanted);
    } in
    ends_audit request ledger start mid loads only (g.W.Inputs.run c.audit_over.new.world)
    c.audit_over.result files
    (c.audit_over.ensures.ends (given_of request files) (record {
      valid = taps_in loaded.3;
      same = λ i. record (given_of request files) {
        all = c.new.ensures.all i;
        valid = then_some (same i) (taps_in loaded.3);
        ends = known i;
      };
      clock = c.in-Ok-clock.ensures.zone;
      text = [];
      as_text = c.in_ok-trace.ensures.read;
      checked = c.new.ensures.checked tables.fares _ _ loaded.5.balance;
    }))
