use Rattle.std.proofs.Common.{◌≡◌, false, inl, inr, refl, rules, tests, true}
use Rattle.omny_audit.proofs.program.end_run.Goals as goal

-- the fault of the audit is reported
pub returns-in-Err : goal.returns-in-Err
returns-in-Err g c = λ request ledger old ends. inr (record {
  why = _;
  before = g.W.Inputs.run c.args.world.now;
  halted = rw c.in-Err.is at ends;
  reported = rw c.outside.ensures at c.report.ensures;
  failed = refl;
})

pub returns-in-Ok-true : goal.returns-in-Ok-true
returns-in-Ok-true g c = λ request ledger old ends.
    let yes : c.in-Ok-true.field-0 ≡ true = first_of (cc, search (rules, tests)) in
    inl (rw yes at (rw c.in-Ok-true.is at ends))

pub returns-in-Ok-false : goal.returns-in-Ok-false
returns-in-Ok-false g c = λ request ledger old ends.
    let no : c.in-Ok-false.field-0 ≡ false = first_of (cc, search (rules, tests)) in
    inl (rw no at (rw c.in-Ok-false.is at ends))
