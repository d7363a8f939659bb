-- What was loaded, one more each time, what was read of the ledger, and how an audit is stopped.
use Rattle.std.proofs.Common.{◌≡◌, ◌∙◌, ◌++◌, ◌∷◌, ◌≤◌, ◌⊎◌, [], ℕ, Bool, List, Option, Result, Err}
use Rattle.std.proofs.Common.{None, Ok, Some, ap, append-nil, append_assoc, arith, false, inl, inr}
use Rattle.std.proofs.Common.{length, map, option_map, refl, subst, sym, true, ⊎_elim}
use Rattle.clap.specs.Words.{Text}
use Rattle.frame.proofs.Giving.{gave_nothing, gave_text}
use Rattle.frame.proofs.Outcomes.{gave_loads, leaves_files_weaker, loads_more}
use Rattle.frame.specs.{Outcome.IsHalted, Outcome.Rule, declared.outside.Outside.Outside}
use Rattle.frame.specs.declared.outside.Outside.TheVariants.{NoMemory}
use Rattle.ledger_check.specs.Balances.{AreValidFields}
use Rattle.ledger_check.specs.Columns.{has_traced_head, traced_head}
use Rattle.ledger_check.specs.{Positions.HasUploads, declared.positions.Positions.Positions}
use Rattle.omny_audit.specs.Ends.{IsWrong, LeavesOf, LoadsGivenLedger, audit_rule, found_of}
use Rattle.omny_audit.specs.Options.{AuditRequest, files_of, named_file}
use Rattle.omny_audit.specs.Program.{HasLoaded, HoldsOfRead, given_of}
use Rattle.omny_audit.specs.declared.fault.Fault.{Fault}
use Rattle.omny_audit.specs.inside.{Audits.EndsAs, Audits.GoesOn, Traced.HaveNamed}
use Rattle.omny_audit.specs.inside.Program.{EndsBy, StopsLoads, outside_of}
use Rattle.program_manners.specs.{TableLoads.load_of, TableWords.table_files}
use Rattle.program_manners.specs.{TablesFaults.StopsTables, TablesFaults.outside_of as of_tables}
use Rattle.program_manners.specs.declared.table_loads.TablesFault.{TablesFault}
use Rattle.std.proofs.lemmas.List.{length-map, map-append, take-append-le}
use Rattle.std.proofs.lemmas.List.Elements.{Contains-append_left, Contains-append_right}
use Rattle.std.proofs.lemmas.Option.{get_or_from_slice_get, slice_get-map, slice_get_within}
use Rattle.std.specs.{Bool.then_some, List.slice_get, Prelude.Contains}
use Rattle.std.specs.{Result.IsErrAnd, Str.bytes_eq}
use Rattle.tap_views.proofs.Reading.{one_list_of_batches}
use Rattle.tap_views.specs.{Encoding.fields_of, Files.taps_of_batches, Layout.Tap}
use Rattle.tap_views.specs.declared.encoder.TapFields.{TapFields}
use Rattle.world.proofs.Streams.{whole_at_end}
use Rattle.world.specs.{Origins.with_loads, Run.Calls, Run.Load, Run.Run, Run.with_flushed}
use Rattle.world.specs.{Run.with_written, Streams.HasRead, Streams.IsWhole}
use Rattle.world.specs.declared.stream.Stream.{Stream}

-- an upload has one list of valid taps
pub same_fields : (upload : List ℕ) (fields others : List TapFields)
    → AreValidFields upload fields → AreValidFields upload others → fields ≡ others
same_fields upload fields others (taps, valid, is) (more, valid_too, is_too) =
    let same = (one_list_of_batches upload valid.batches valid_too.batches valid.rest valid_too.rest
    valid.is_file valid_too.is_file).0 in
    is ∙ ap (λ (ts : List Tap). map fields_of ts)
    (valid.all ∙ ap taps_of_batches same ∙ sym valid_too.all) ∙ sym is_too

-- a file is a traced ledger exactly if its first bytes say so
still_head : (head rest : List ℕ) → length traced_head ≤ length head
    → has_traced_head head ≡ has_traced_head (head ++ rest)
still_head head rest long = ap (λ (t : List ℕ). bytes_eq t traced_head)
    (sym (take-append-le (length traced_head) head rest long))

pub headed : (before after : Stream) (name : Option Text) (head : List ℕ)
    → HasRead before name head → (before.from ≡ None) ⊎ (length traced_head ≤ length head)
    → GoesOn before after head
    → HoldsOfRead after.trace (λ file. has_traced_head head ≡ has_traced_head file)
headed before after name head read (inl none) goes = λ more end.
    let same = goes.ended none in
    let bytes : after.trace.reading.bytes ≡ head =
    ap (λ (s : Stream). s.trace.reading.bytes) same ∙ ap (λ (x : Load). x.bytes) read.reading in
    let whole = subst (λ (s : Stream). IsWhole s.trace) (sym same)
    (whole_at_end before name head read none) in
    ap has_traced_head (sym (append-nil head) ∙ ap (λ (t : List ℕ). head ++ t) (sym (end whole))
    ∙ ap (λ (t : List ℕ). t ++ more) (sym bytes))
headed before after name head read (inr long) goes = λ more end.
    still_head head (goes.rest ++ more) long
    ∙ ap has_traced_head (sym (append_assoc head goes.rest more)
    ∙ ap (λ (t : List ℕ). t ++ more) (sym goes.begins))

-- what is compared, seen otherwise
pub compared_as : {A B : Type 0} (f : A → B) (named : Bool) (x : A)
    → option_map f (then_some named x) ≡ then_some named (f x)
compared_as f true x = refl
compared_as f false x = refl

-- no place was named
pub named_none : (named : Bool) (positions : Positions) (lists : List (List TapFields))
    → HasUploads positions lists → HaveNamed (then_some named positions) []
named_none true positions lists has = has.none
named_none false positions lists has = tt

-- what is at a place of a list is in it
pub contained : {A B : Type 0} (f : A → B) (xs : List A) (k : ℕ) (x : A) → slice_get xs k ≡ Some x
    → Contains (map f xs) (f x)
contained f xs k x is = (
  k,
  omega (arith, length-map xs f, slice_get_within xs k x is),
  get_or_from_slice_get (map f xs) k (f x) (f x) (slice_get-map f xs k ∙ ap (option_map f) is),
)

-- what is said of fewer files is true of more
leaves_more : {t u : Type 0} → (t → u) → (ns ms : List (Option Text))
    → ((n : Option Text) → Contains ns n → Contains ms n) → (name : Option Text) (ledger : Calls)
    (why : Outside) (before after : Run) → LeavesOf t ns name ledger why before after
    → LeavesOf u ms name ledger why before after
leaves_more f ns ms among name ledger why before after (inl leaves) =
    inl (leaves_files_weaker f ns ms among why before after leaves)
leaves_more f ns ms among name ledger why before after (inr unread) = inr unread

of_none : (names : List (Option Text)) (n : Option Text) → Contains [] n → Contains names n
of_none names n (k, within, is) = absurd (omega (arith, within))

-- ---- how an audit is stopped
-- the result is the fault that was handed on
pub handed : (rule : Rule) (old new : Run) (result : Result Bool Fault) (fault : Fault)
    → IsErrAnd result (λ e. e ≡ fault) → IsHalted rule old new (outside_of fault)
    → EndsBy rule old new result
handed rule old new (Ok success) fault is halted = absurd is
handed rule old new (Err e) fault is halted = rw is halted

module _ (request : AuditRequest) (ledger : Calls) where
  -- only files were loaded
  halted : (start mid new : Run) (loads : List Load) (why : Outside) → mid ≡ with_loads start loads
      → LeavesOf (IsWrong request loads) (files_of request) request.ledger ledger why mid new
      → IsHalted (audit_rule request ledger) start new why
  halted start mid new loads why is leaves = record {
    part = found_of loads [];
    partial = (refl, inl refl);
    leaves = subst (λ r. LeavesOf (IsWrong request loads) (files_of request) request.ledger ledger
        why r new) (is ∙ gave_loads start loads) leaves;
  }

  pub halted_first : (start : Run) → IsHalted (audit_rule request ledger) start start NoMemory
  halted_first start = record {
    part = found_of [] [];
    partial = (refl, inl refl);
    leaves = inl (gave_nothing start);
  }

  pub halted_tables : (start new : Run) (fault : TablesFault)
      → StopsTables start new request.table fault
      → IsHalted (audit_rule request ledger) start new (of_tables fault)
  halted_tables start new fault s =
      halted start (with_loads start s.loads) new s.loads (of_tables fault) refl
      (inl (leaves_files_weaker inl (map Some (table_files request.table)) (files_of request)
      (λ n is. Contains-append_left (map Some (table_files request.table)) _ n is)
      (of_tables fault) (with_loads start s.loads) new s.leaves))

  -- the loads of another step follow
  module _ (start mid : Run) (loads : List Load) (is : mid ≡ with_loads start loads) where
    halted_on : (wrong : List Load → Type 0) (names : List Text) (new : Run) (fault : Fault)
        → ((more : List Load) → wrong more → IsWrong request (loads ++ more))
        → ((n : Option Text) → Contains (map Some names) n → Contains (files_of request) n)
        → StopsLoads wrong names mid new fault
        → IsHalted (audit_rule request ledger) start new (outside_of fault)
    halted_on wrong names new fault is_wrong among s =
        halted start (with_loads mid s.loads) new (loads ++ s.loads) (outside_of fault)
        (loads_more start mid (with_loads mid s.loads) loads s.loads is refl)
        (inl (leaves_files_weaker (is_wrong s.loads) (map Some names) (files_of request) among
        (outside_of fault) (with_loads mid s.loads) new s.leaves))

    pub halted_uploads : (new : Run) (fault : Fault)
        → StopsLoads (LoadsGivenLedger request.uploads) request.uploads mid new fault
        → IsHalted (audit_rule request ledger) start new (outside_of fault)
    halted_uploads new fault s = halted_on (LoadsGivenLedger request.uploads) request.uploads new fault
        (λ more wrong. inr (inl (record {
          name = wrong.name;
          among = wrong.among;
          before = loads ++ wrong.before;
          text = wrong.text;
          is_last = ap (λ xs. loads ++ xs) wrong.is_last
              ∙ sym (append_assoc loads wrong.before (load_of wrong.name wrong.text ∷ []));
          begins = wrong.begins;
        })))
        (λ n among. Contains-append_right (map Some (table_files request.table)) _ n
        (Contains-append_left (map Some request.uploads) _ n among)) s

    pub halted_report : (new : Run) (fault : Fault)
        → StopsLoads (λ more. ⊥) (named_file request.report) mid new fault
        → IsHalted (audit_rule request ledger) start new (outside_of fault)
    halted_report new fault s =
        halted_on (λ more. ⊥) (named_file request.report) new fault (λ more none. absurd none)
        (λ n among. Contains-append_right (map Some (table_files request.table)) _ n
        (Contains-append_right (map Some request.uploads) _ n among)) s

    pub halted_now : (truth : Type 0) (why : Outside) → (truth → IsWrong request loads)
        → LeavesOf truth [] request.ledger ledger why mid mid
        → IsHalted (audit_rule request ledger) start mid why
    halted_now truth why is_wrong leaves = halted start mid mid loads why is
        (leaves_more is_wrong [] (files_of request) (of_none (files_of request)) request.ledger ledger
        why mid mid leaves)

    -- what an audit of these files ends as
    pub ends_audit : (new : Run) (result : Result Bool Fault)
        → (files : HasLoaded request loads ledger)
        → EndsAs (given_of request files) ledger mid new result
        → EndsBy (audit_rule request ledger) start new result
    ends_audit new (Ok success) files (text, (found, whole), wrote) = record {
      given = found_of loads text;
      right = (refl, success, record { files = files; found = found; whole = whole }, refl);
      all = wrote ∙ ap with_flushed (gave_text mid (with_written mid text) start (found_of loads [])
          text refl (is ∙ gave_loads start loads));
    }
    ends_audit new (Err fault) files cut = record {
      part = found_of loads cut.front;
      partial = (
        refl,
        ⊎_elim (λ none. inl none)
            (λ right. inr (cut.rest, record { files = files; right = right })) cut.right,
      );
      leaves = leaves_more (λ none. absurd none) [] (files_of request) (of_none (files_of request))
          request.ledger ledger (outside_of fault) _ new
          (subst (λ r. LeavesOf ⊥ [] request.ledger ledger (outside_of fault) r new)
          (gave_text mid (with_written mid cut.front) start (found_of loads []) cut.front refl
          (is ∙ gave_loads start loads))
          (subst (λ n. LeavesOf ⊥ [] n ledger (outside_of fault) (with_written mid cut.front) new)
          files.reads_ledger cut.leaves));
    }
