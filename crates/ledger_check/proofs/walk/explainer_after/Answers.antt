use Rattle.std.proofs.Common.{List, Option, sym, ap, subst, ◌∙◌}
use Rattle.fare_texts.specs.{Explainers.HasExplained, declared.explainer.Explainer.Explainer}
use Rattle.histories.specs.declared.entry.Entry.{Entry}
use Rattle.ledger_check.proofs.TokenOrder.{greater_number, less_number}
use Rattle.ledger_check.proofs.WalkLemmas.{run_equal, run_greater, run_less, run_none}
use Rattle.ledger_check.specs.{FullCheckStates.HasRunExplainer, FullChecks.decreases_after}
use Rattle.tap_views.proofs.TokenLemmas.{token_cmp-ties}
use Rattle.ledger_check.proofs.walk.explainer_after.Goals as goal

pub returns-in_default-clause-explained : goal.returns-in_default-clause-explained
returns-in_default-clause-explained c = λ fares run is.
    let none = subst (λ (t : Option Explainer). HasRunExplainer fares t run) c.in_default.is is in
    subst (λ (es : List Entry). HasExplained fares c.of.result es)
    (sym (run_none c.args.token run none))
    (c.of.ensures.explained fares)

pub returns-in_default-clause-is_decrease : goal.returns-in_default-clause-is_decrease
returns-in_default-clause-is_decrease c = λ fares run is.
    let none = subst (λ (t : Option Explainer). HasRunExplainer fares t run) c.in_default.is is in
    sym (ap (λ (es : List Entry). decreases_after es c.args.token) none)

pub returns-in-Less-clause-explained : goal.returns-in-Less-clause-explained
returns-in-Less-clause-explained c = λ fares run is.
    let holds = subst (λ (t : Option Explainer). HasRunExplainer fares t run) c.in-Some.is is in
    let less = less_number c.in-Some.explainer.token c.args.token holds.fits c.requires
    (sym c.cmp.ensures ∙ c.in-Less.is) in
    subst (λ (es : List Entry). HasExplained fares c.of-in-Less.result es)
    (sym (run_less fares c.in-Some.explainer run c.args.token holds less).0)
    (c.of-in-Less.ensures.explained fares)

pub returns-in-Less-clause-is_decrease : goal.returns-in-Less-clause-is_decrease
returns-in-Less-clause-is_decrease c = λ fares run is.
    let holds = subst (λ (t : Option Explainer). HasRunExplainer fares t run) c.in-Some.is is in
    let less = less_number c.in-Some.explainer.token c.args.token holds.fits c.requires
    (sym c.cmp.ensures ∙ c.in-Less.is) in
    sym (run_less fares c.in-Some.explainer run c.args.token holds less).1

pub returns-in-Equal-clause-explained : goal.returns-in-Equal-clause-explained
returns-in-Equal-clause-explained c = λ fares run is.
    let holds = subst (λ (t : Option Explainer). HasRunExplainer fares t run) c.in-Some.is is in
    let same = token_cmp-ties c.in-Some.explainer.token c.args.token
    (sym c.cmp.ensures ∙ c.in-Equal.is) in
    subst (λ (es : List Entry). HasExplained fares c.in-Some.explainer es)
    (sym (run_equal fares c.in-Some.explainer run c.args.token holds same).0) holds.explained

pub returns-in-Equal-clause-is_decrease : goal.returns-in-Equal-clause-is_decrease
returns-in-Equal-clause-is_decrease c = λ fares run is.
    let holds = subst (λ (t : Option Explainer). HasRunExplainer fares t run) c.in-Some.is is in
    let same = token_cmp-ties c.in-Some.explainer.token c.args.token
    (sym c.cmp.ensures ∙ c.in-Equal.is) in
    sym (run_equal fares c.in-Some.explainer run c.args.token holds same).1

pub returns-in-Greater-clause-explained : goal.returns-in-Greater-clause-explained
returns-in-Greater-clause-explained c = λ fares run is.
    let holds = subst (λ (t : Option Explainer). HasRunExplainer fares t run) c.in-Some.is is in
    let greater = greater_number c.in-Some.explainer.token c.args.token holds.fits c.requires
    (sym c.cmp.ensures ∙ c.in-Greater.is) in
    subst (λ (es : List Entry). HasExplained fares c.of-in-Greater.result es)
    (sym (run_greater fares c.in-Some.explainer run c.args.token holds greater).0)
    (c.of-in-Greater.ensures.explained fares)

pub returns-in-Greater-clause-is_decrease : goal.returns-in-Greater-clause-is_decrease
returns-in-Greater-clause-is_decrease c = λ fares run is.
    let holds = subst (λ (t : Option Explainer). HasRunExplainer fares t run) c.in-Some.is is in
    let greater = greater_number c.in-Some.explainer.token c.args.token holds.fits c.requires
    (sym c.cmp.ensures ∙ c.in-Greater.is) in
    sym (run_greater fares c.in-Some.explainer run c.args.token holds greater).1
