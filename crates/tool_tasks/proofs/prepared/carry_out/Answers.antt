use Rattle.std.proofs.Common.{◌∙◌, List, Option, Some, ap, subst, sym, ℕ}
use Rattle.frame.proofs.Outcomes.{gave_loads, loaded_of}
use Rattle.tool_tasks.proofs.Preparing.{stopped_first, stopped_whole}
use Rattle.tool_tasks.specs.declared.prepared.NewFile.{NewFile}
use Rattle.tool_tasks.specs.inside.Prepared.{Carries, IsNamedIn, files_in, given_of, known_file}
use Rattle.tool_tasks.proofs.prepared.carry_out.Goals as goal

pub returns-in-None : goal.returns-in-None
returns-in-None g c = λ words start loads was named.
    let p = c.args.prepared.now in
    subst (λ (h : Option NewFile). Carries words start (given_of loads p (files_in h)) p.status
    (g.W.Inputs.run c.carry.new.world) c.carry.result) (sym c.in-None.is) (c.carry.ensures words start loads was named tt)

pub returns-in-Err : goal.returns-in-Err
returns-in-Err g c = λ words start loads was named.
    stopped_whole words start _ loads c.args.prepared.now (files_in c.args.prepared.now.held)
    c.in-Err.why
    (stopped_first words start _ _ (loaded_of loads) c.args.prepared.now c.in-Err.why
    (was ∙ gave_loads start loads)
    (c.in-Err.ensures.stopped words (subst (IsNamedIn words) c.in-Some.is named.held)))

pub returns-in-Ok : goal.returns-in-Ok
returns-in-Ok g c = λ words start loads was named.
    let p = c.args.prepared.now in
    let held = c.in-Some.held in
    let known = c.in-Ok.ensures.bytes ∙ ap (λ (t : List ℕ). Some t) c.deref.ensures.value in
    subst (λ (h : Option NewFile). Carries words start (given_of loads p (files_in h)) p.status
    (g.W.Inputs.run c.carry-in-Ok.new.world) c.carry-in-Ok.result) (sym c.in-Some.is)
    (subst (λ (k : Option (List ℕ)). Carries words start (given_of loads p
    (known_file held.name.now k)) p.status (g.W.Inputs.run c.carry-in-Ok.new.world)
    c.carry-in-Ok.result) known
    (c.carry-in-Ok.ensures words start loads (c.in-Ok.ensures.unchanged ∙ was) named
    (subst (IsNamedIn words) c.in-Some.is named.held)))
