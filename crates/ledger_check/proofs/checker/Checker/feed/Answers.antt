-- Each round reads one line more of the piece.
use Rattle.std.proofs.Common.{◌++◌, [], ℕ, List, refl, sym, ap, subst, ◌∙◌, append_assoc}
use Rattle.std.proofs.Common.{append-nil}
use Rattle.ledger_check.specs.FullCheckStates.{IsFed, IsRightSoFar}
use Rattle.ledger_check.proofs.CheckerLemmas.{fed_more, fed_none}
use Rattle.ledger_check.proofs.checker.Checker.feed.Goals as goal

pub loop-line-init : goal.loop-line-init
loop-line-init c = record {
  consumed = [];
  whole = refl;
  fed = λ text valid is.
      subst (λ (t : List ℕ). IsRightSoFar c.args.table.now c.args.self.now c.args.balance.now t
      valid) (sym (append-nil text)) is;
}

pub take-requires-clause-fed : goal.take-requires-clause-fed
take-requires-clause-fed c =
    let fed = c.requires.fed in
    (fed.0 ++ c.loop-line.invariant.consumed, fed.1, c.loop-line.invariant.fed fed.0 fed.1 fed.2)

pub returns-then-is_some : goal.returns-then-is_some
returns-then-is_some c = λ text valid is.
    let before = c.loop-line.invariant in
    let line = c.in-Some.line.now in
    let whole = before.whole ∙ ap (λ (r : List ℕ). before.consumed ++ r) c.in-Some.ensures.some.1
    ∙ sym (append_assoc before.consumed line c.in-Some.trailing.now) in
    subst (λ (p : List ℕ). IsFed c.args.table.now c.take.new.self c.take.new.balance (text ++ p)
    valid c.in_ok-reported.reported) (sym whole)
    (fed_more c.args.table.now c.take.new.self c.take.new.self c.take.new.balance
    c.take.new.balance text (before.consumed ++ line) c.in-Some.trailing.now valid
    c.in_ok-reported.reported (sym c.is_some.ensures ∙ c.if-is_some.true)
    (subst (λ (t : List ℕ). IsFed c.args.table.now c.take.new.self c.take.new.balance t valid
    c.in_ok-reported.reported) (append_assoc text before.consumed line)
    (c.in_ok-reported.ensures (text ++ before.consumed) valid (before.fed text valid is))))

pub loop-line-preserved : goal.loop-line-preserved
loop-line-preserved c =
    let before = c.loop-line.invariant in
    let line = c.in-Some.line.now in
    let trailing = c.in-Some.trailing.now in
    record {
      consumed = before.consumed ++ line;
      whole = before.whole ∙ ap (λ (r : List ℕ). before.consumed ++ r) c.in-Some.ensures.some.1
          ∙ sym (append_assoc before.consumed line trailing);
      fed = λ text valid is.
          subst (λ (t : List ℕ). IsRightSoFar c.args.table.now c.take.new.self c.take.new.balance t
          valid) (append_assoc text before.consumed line)
          (fed_none c.args.table.now c.take.new.self c.take.new.balance
          ((text ++ before.consumed) ++ line) valid c.in_ok-reported.reported
          (sym c.is_some.ensures ∙ c.if-is_some.false)
          (c.in_ok-reported.ensures (text ++ before.consumed) valid (before.fed text valid is)));
    }

pub keep-requires-clause-fed : goal.keep-requires-clause-fed
keep-requires-clause-fed c =
    let fed = c.requires.fed in (
      c.args.table.now,
      c.loop-line.balance,
      fed.0 ++ c.loop-line.invariant.consumed,
      fed.1,
      c.loop-line.invariant.fed fed.0 fed.1 fed.2,
    )

pub keep-requires-clause-rest : goal.keep-requires-clause-rest
keep-requires-clause-rest c = c.in_default.ensures.none

pub returns : goal.returns
returns c = λ text valid is.
    let before = c.loop-line.invariant in
    subst (λ (t : List ℕ). IsFed c.args.table.now c.keep.new.self c.loop-line.balance t valid
    c.in_ok-reported-2.reported)
    (append_assoc text before.consumed c.loop-line.rest.now
    ∙ ap (λ (p : List ℕ). text ++ p) (sym before.whole))
    (c.in_ok-reported-2.ensures c.args.table.now c.loop-line.balance (text ++ before.consumed)
    valid (before.fed text valid is))
