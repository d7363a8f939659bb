use Rattle.std.proofs.Common.{◌∙◌, List, sym, subst, arith}
use Rattle.std.proofs.lemmas.Bool.{false≢true, true≢false}
use Rattle.histories.specs.declared.entry.Entry.{Entry}
use Rattle.std.specs.Prelude.{IfSome}
use Rattle.ledger_check.specs.Sums.{AreSumsOf}
use Rattle.ledger_check.proofs.CheckerLemmas.{all_subtracted, ended_complete, ended_in_line, of_ledger}
use Rattle.ledger_check.proofs.checker.Checker.finish.Goals as goal

pub returns-clause-verdict : goal.returns-clause-verdict
returns-clause-verdict c = λ fares balance text valid is.
    ended_in_line fares c.args.self.now balance text valid is
    (λ whole. true≢false (sym (c.is_whole.ensures.1 whole) ∙ c.if-is_whole.false))

pub returns-clause-legal : goal.returns-clause-legal
returns-clause-legal c = λ fares balance text valid is legal.
    absurd (false≢true legal)

pub entry_sums-requires : goal.entry_sums-requires
entry_sums-requires c =
    let (fares, balance, text, valid, is) = c.requires in (fares, text, is.taken, is.fed)

pub returns-then-is_whole-clause-verdict : goal.returns-then-is_whole-clause-verdict
returns-then-is_whole-clause-verdict c = λ fares balance text valid is.
    let whole = c.is_whole.ensures.0 c.if-is_whole.true in
    let some = whole.0 in
    ended_complete fares c.args.self.now balance text valid is whole.0 whole.1 _ _
    (omega (arith, some)) is.fed.lines.sums.order.early

pub returns-then-is_whole-clause-legal : goal.returns-then-is_whole-clause-legal
returns-then-is_whole-clause-legal c = λ fares balance text valid is legal entries of.
    let whole = c.is_whole.ensures.0 c.if-is_whole.true in
    let self = c.args.self.now in (
      all_subtracted fares self balance text valid is whole.0 whole.1 entries of,
      subst (λ (es : List Entry). IfSome c.in_ok-entry_sums.entry_sums (AreSumsOf es))
          (of_ledger fares self balance text valid is whole.0 whole.1 entries of).same
          (c.in_ok-entry_sums.ensures fares text is.taken is.fed),
    )
