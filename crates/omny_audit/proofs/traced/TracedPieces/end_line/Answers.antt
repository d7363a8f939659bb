-- The line, or the one that it ends.
use Rattle.std.proofs.Common.{◌≡◌, ◌++◌, ◌≤◌, arith, ap, inl, length, List, ℕ, sym, subst}
use Rattle.std.proofs.lemmas.Bool.Decides.{nat_tests}
use Rattle.ledger_check.proofs.LineEnds.{empty_list}
use Rattle.omny_audit.specs.inside.Traced.{IsKeptOf}
use Rattle.omny_audit.proofs.TraceLemmas.{nothing_started, took_line}
use Rattle.omny_audit.proofs.traced.TracedPieces.end_line.Goals as goal

pub returns-then-is_empty-clause-read : goal.returns-then-is_empty-clause-read
returns-then-is_empty-clause-read c = λ file before read is.
    let trace = c.args.self.now in
    let line = c.args.line.now in
    let none : length trace.started.items ≤ 0 = grind (arith, nat_tests, trace.started.ok.0) in
    let empty = empty_list trace.started.items none in
    let same : line ≡ is.started ++ line = ap (λ (b : List ℕ). b ++ line)
    (sym (nothing_started trace trace file _ read is empty)) in
    took_line trace _ file _ read is line _ c.requires.line empty
    (c.in_ok-take.ensures.read (is.started ++ line) before read (inl same) is.lines)

pub returns-clause-read : goal.returns-clause-read
returns-clause-read c = λ file before read is.
    let kept = subst (λ (k : List ℕ). IsKeptOf k (is.started ++ c.args.line.now))
    (sym c.as_slice.ensures.value) (c.in_ok-keep.ensures is.started is.kept) in
    took_line c.args.self.now _ file _ read is c.args.line.now _ c.requires.line
    c.clear.ensures.items
    (c.in_ok-take-2.ensures.read (is.started ++ c.args.line.now) before read kept is.lines)
