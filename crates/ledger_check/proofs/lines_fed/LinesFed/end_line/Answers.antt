use Rattle.std.proofs.Common.{◌≡◌, ◌≤◌, ◌++◌, List, ℕ, [], length, inl, refl, sym, ap, subst, arith}
use Rattle.std.proofs.lemmas.Bool.Decides.{nat_tests}
use Rattle.ledger_check.specs.FullCheckStates.{IsKept}
use Rattle.ledger_check.proofs.LineEnds.{empty_list}
use Rattle.ledger_check.proofs.FullCheckLemmas.{kept_none, line_ends, took_line_of}
use Rattle.ledger_check.proofs.lines_fed.LinesFed.end_line.Goals as goal

pub take-requires-clause-taken : goal.take-requires-clause-taken
take-requires-clause-taken c = let fed = c.requires.fed in (fed.1, fed.2.lines)

pub take-requires-clause-line : goal.take-requires-clause-line
take-requires-clause-line c = (c.args.line.now, c.requires.line, inl refl)

pub returns-then-is_empty : goal.returns-then-is_empty
returns-then-is_empty c = λ text taken is.
    let fed = c.args.self.now in
    let line = c.args.line.now in
    let none : length fed.started.items ≤ 0 = grind (arith, nat_tests, fed.started.ok.0) in
    let empty = empty_list fed.started.items none in
    let started : is.started ≡ [] = kept_none fed.started.items is.started is.kept empty in
    let same : line ≡ is.started ++ line = ap (λ (b : List ℕ). b ++ line) (sym started) in (
      line,
      took_line_of c.args.table.now fed _ text line taken _ is c.requires.line empty same
          (c.in_ok-finding.ensures taken line is.lines c.requires.line (inl refl)),
    )

pub take-requires-2-clause-taken : goal.take-requires-2-clause-taken
take-requires-2-clause-taken c = let fed = c.requires.fed in (fed.1, fed.2.lines)

pub take-requires-2-clause-line : goal.take-requires-2-clause-line
take-requires-2-clause-line c =
    let is = c.requires.fed.2 in (
      is.started ++ c.args.line.now,
      line_ends is.started c.args.line.now is.lacks c.requires.line,
      subst (λ (k : List ℕ). IsKept k (is.started ++ c.args.line.now))
          (sym c.as_slice.ensures.value) (c.in_ok-keep.ensures is.started is.kept),
    )

pub returns : goal.returns
returns c = λ text taken is.
    let whole = is.started ++ c.args.line.now in (
      whole,
      took_line_of c.args.table.now c.args.self.now _ text c.args.line.now taken _ is
          c.requires.line c.clear.ensures.items refl
          (c.in_ok-finding-2.ensures taken whole is.lines
          (line_ends is.started c.args.line.now is.lacks c.requires.line)
          (subst (λ (k : List ℕ). IsKept k whole) (sym c.as_slice.ensures.value)
          (c.in_ok-keep.ensures is.started is.kept))),
    )
