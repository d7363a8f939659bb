use Rattle.std.proofs.Common.{◌<◌, ◌≤◌, ◌∷◌, List, ℕ, length, sym, subst, arith}
use Rattle.std.proofs.lemmas.Bool.Decides.{nat_tests}
use Rattle.ledger_check.proofs.LineEnds.{empty_list}
use Rattle.omny_audit.specs.inside.Traced.{IsKeptOf}
use Rattle.omny_audit.proofs.TraceLemmas.{ended_cut, ended_whole}
use Rattle.omny_audit.proofs.traced.TracedPieces.finish.Goals as goal

pub returns-then-is_empty-clause-read : goal.returns-then-is_empty-clause-read
returns-then-is_empty-clause-read c = λ file before read is.
    let trace = c.args.self.now in
    let none : length trace.started.items ≤ 0 = grind (arith, nat_tests, trace.started.ok.0) in (
      read,
      ended_whole trace trace file _ read is (empty_list trace.started.items none),
      is.lines,
    )

pub returns-clause-read : goal.returns-clause-read
returns-clause-read c = λ file before read is.
    let trace = c.args.self.now in
    let some : 0 < length trace.started.items = grind (arith, nat_tests, trace.started.ok.0) in
    let kept = subst (λ (k : List ℕ). IsKeptOf k is.started) (sym c.as_slice.ensures.value)
    is.kept in
    let next = c.in_ok-take.ensures.read is.started before read kept is.lines in
    (next.0 ∷ read, ended_cut trace trace file _ read is next.0.line some next.1, next.2)
