use Rattle.std.proofs.Common.{◌≡◌, ◌∙◌, ◌++◌, ◌∷◌, ◌<◌, [], Bor, List, Some, ℕ, ap, get_or, length}
use Rattle.std.proofs.Common.{map, option_map, refl, subst, sym, take}
use Rattle.frame.proofs.Outcomes.{loads_more, one_loaded}
use Rattle.ledger_check.specs.Columns.{has_ledger_head}
use Rattle.omny_audit.proofs.ProgramLemmas.{contained}
use Rattle.omny_audit.specs.{Ends.LoadsGivenLedger, declared.fault.Fault.TheVariants.File}
use Rattle.omny_audit.specs.{declared.fault.Fault.TheVariants.NoMemory, inside.Program.StopsLoads}
use Rattle.program_manners.specs.TableLoads.{load_of}
use Rattle.std.proofs.lemmas.List.{map_more, map_push, take_all}
use Rattle.std.proofs.lemmas.Option.{slice_get-get_or, slice_get-map}
use Rattle.std.specs.Prelude.{Contains}
use Rattle.tap_views.proofs.Choices.{IfErr_handed_on}
use Rattle.tap_views.specs.UploadEnds.{ArePlainEnds}
use Rattle.world.proofs.Laws.{no_loads}
use Rattle.world.specs.Loads.{IsRefused}
use Rattle.omny_audit.proofs.program.load_uploads.Goals as goal

abbrev no_name : Bor (List ℕ)
no_name = record { ref_ptr = (0, 0); now = [] }

-- the name of a round is one of all
named : {B : Type 0} (f : List ℕ → B) (names : List (Bor (List ℕ))) (k : ℕ) → k < length names
    → Contains (map f (map (λ n. n.now) names)) (f (get_or names k no_name).now)
named f names k within = contained f (map (λ n. n.now) names) k _
    (slice_get-map (λ n. n.now) names k
    ∙ ap (option_map (λ n. n.now)) (slice_get-get_or names k no_name within))

pub loop-name-init : goal.loop-name-init
loop-name-init g c = (
  [],
  sym (no_loads (g.S.Inputs.run c.args.source.now)),
  [],
  [],
  record { named = refl; bytes = refl },
  record {
    are_lists = tt;
    balance = c.new.ensures;
    positions = c.new-2.ensures;
    ends = subst (ArePlainEnds []) (sym c.new-3.ensures.items) tt;
  },
)

pub loop-name-preserved : goal.loop-name-preserved
loop-name-preserved g c =
    let (loads, only, files, lists, named, are) = c.loop-name.invariant in
    let (list, more) = c.in_ok-add_upload.ensures files lists are in (
      loads ++ load_of _ c.in_ok-file.file.items ∷ [],
      loads_more _ _ _ loads _ only c.in_ok-file.ensures.ok,
      files ++ c.in_ok-file.file.items ∷ [],
      lists ++ list ∷ [],
      rw (
        map_more (λ (n : Bor (List ℕ)). n.now) c.args.names.now c.loop-name.name-index no_name
            c.loop-name-test.true,
        map_push Some (map (λ (n : Bor (List ℕ)). n.now)
            (take c.loop-name.name-index c.args.names.now)) _,
      )
          (one_loaded _ loads files (load_of _ c.in_ok-file.file.items) named),
      rw c.as_slice-upload.ensures.value at more,
    )

pub returns-clause-ok : goal.returns-clause-ok
returns-clause-ok g c =
    let all : take c.loop-name.name-index c.args.names.now ≡ c.args.names.now =
    take_all _ c.args.names.now c.loop-name-test.false in
    rw all at c.loop-name.invariant

pub returns-in_err-file-clause-fault : goal.returns-in_err-file-clause-fault
returns-in_err-file-clause-fault g c =
    let (loads, only, _, _, _, _) = c.loop-name.invariant in
    let names = map (λ n. n.now) c.args.names.now in
    let file = c.in_err-file.field-0.0 in
    let new = g.S.Inputs.run c.load_named.new.source in
    IfErr_handed_on c.from_residual.result (File file)
    (StopsLoads (LoadsGivenLedger names) names (g.S.Inputs.run c.args.source.now) new)
    c.from_residual.ensures.1 (record {
      loads = loads;
      leaves = (
        _,
        named Some c.args.names.now c.loop-name.name-index c.loop-name-test.true,
        subst (λ r. IsRefused r new (Some (get_or c.args.names.now c.loop-name.name-index
            no_name).now) file.fault) only c.in_err-file.ensures.refused,
      );
    })

pub returns-in_err-add_upload-clause-fault : goal.returns-in_err-add_upload-clause-fault
returns-in_err-add_upload-clause-fault g c =
    let (loads, only, _, _, _, _) = c.loop-name.invariant in
    let names = map (λ n. n.now) c.args.names.now in
    IfErr_handed_on c.from_residual-in_err-add_upload.result NoMemory
    (StopsLoads (LoadsGivenLedger names) names (g.S.Inputs.run c.args.source.now)
    (g.S.Inputs.run c.load_named.new.source)) c.from_residual-in_err-add_upload.ensures.1 (record {
      loads = loads ++ load_of _ c.in_ok-file.file.items ∷ [];
      leaves = loads_more _ _ _ loads _ only c.in_ok-file.ensures.ok;
    })

pub returns-then-has_ledger_head-clause-fault : goal.returns-then-has_ledger_head-clause-fault
returns-then-has_ledger_head-clause-fault g c =
    let (loads, only, _, _, _, _) = c.loop-name.invariant in record {
      loads = loads ++ load_of _ c.in_ok-file.file.items ∷ [];
      leaves = (
        record {
          name = _;
          among = contained (λ (n : Bor (List ℕ)). n.now) c.args.names.now c.loop-name.name-index _
              (slice_get-get_or c.args.names.now c.loop-name.name-index no_name
              c.loop-name-test.true);
          before = loads;
          text = c.in_ok-file.file.items;
          is_last = refl;
          begins = ap has_ledger_head (sym c.as_slice-upload.ensures.value)
              ∙ sym c.has_ledger_head.ensures ∙ c.if-has_ledger_head.true;
        },
        loads_more _ _ _ loads _ only c.in_ok-file.ensures.ok,
      );
    }
