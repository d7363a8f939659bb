use Rattle.std.proofs.Common.{Some, [], refl, subst, sym}
use Rattle.omny_audit.specs.{Options.named_file, declared.fault.Fault.TheVariants.File}
use Rattle.omny_audit.specs.inside.Program.{StopsLoads}
use Rattle.std.proofs.lemmas.List.Elements.{Contains-push}
use Rattle.std.specs.Prelude.{option_map}
use Rattle.tap_views.proofs.Choices.{IfErr_handed_on}
use Rattle.world.proofs.Laws.{no_loads}
use Rattle.world.specs.Loads.{IsRefused}
use Rattle.omny_audit.proofs.program.load_report.Goals as goal

pub returns-in_default-clause-ok : goal.returns-in_default-clause-ok
returns-in_default-clause-ok g c =
    rw c.in_default.is ([], sym (no_loads (g.S.Inputs.run c.args.source.now)), (refl, refl))

pub returns-clause-ok : goal.returns-clause-ok
returns-clause-ok g c =
    rw c.in-Some.is (_, c.in_ok-text.ensures.ok, (c.in_ok-text.text.items, refl, refl))

pub returns-in_err-text-clause-fault : goal.returns-in_err-text-clause-fault
returns-in_err-text-clause-fault g c =
    let file = c.in_err-text.field-0.0 in
    let run = g.S.Inputs.run c.args.source.now in
    IfErr_handed_on c.from_residual.result (File file)
    (StopsLoads (λ loads. ⊥) (named_file (option_map (λ n. n.now) c.args.name)) run
    (g.S.Inputs.run c.load_named.new.source)) c.from_residual.ensures.1
    (rw c.in-Some.is (record {
      loads = [];
      leaves = (
        Some c.in-Some.name.now,
        Contains-push [] (Some c.in-Some.name.now),
        subst (λ r. IsRefused r (g.S.Inputs.run c.load_named.new.source) (Some c.in-Some.name.now)
            file.fault) (sym (no_loads run)) c.in_err-text.ensures.refused,
      );
    }))
