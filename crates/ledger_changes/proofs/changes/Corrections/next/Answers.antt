use Rattle.std.proofs.Common.{◌∙◌, ◌++◌, Bool, sym, subst}
use Rattle.ledger_changes.proofs.Walking.{started, given_after}
use Rattle.ledger_changes.specs.{Given.IsWalked, inside.Views.sum_in, inside.Walks.WalksOn}
use Rattle.std.proofs.lemmas.Result.{IfErr-weaker, IfOk-weaker}
use Rattle.ledger_changes.proofs.changes.Corrections.next.Goals as goal

pub returns-clause-given : goal.returns-clause-given
returns-clause-given c =
    let self = c.args.self.now in
    IfOk-weaker c.push_changes.result _ _ (λ end given by_token text has.
    given_after _ by_token end (text ++ c.push_changes.new.piece.items) has.by
    (c.push_changes.ensures.new ∙ has.of_old) (c.push_changes.ensures.old ∙ has.of_new)
    (given.0 has.ended_old has.ended_new)
    (subst (λ (b : Bool). WalksOn b end (text ++ c.push_changes.new.piece.items)
    c.push_changes.new.tally.removed (sum_in c.push_changes.new.tally.last) c.push_changes.new.old
    c.push_changes.new.new) has.by (given.1 text (subst (λ (b : Bool). IsWalked b text
    self.tally.removed (sum_in self.tally.last) self.old self.new) (sym has.by) has.walked))))
    c.push_changes.ensures.given

pub returns-clause-started : goal.returns-clause-started
returns-clause-started c by_token text has =
    started c.args.self.now by_token text _ _ has c.push_changes.ensures.follow.0.back
    c.push_changes.ensures.follow.1.back

pub returns-clause-wrong : goal.returns-clause-wrong
returns-clause-wrong c =
    let self = c.args.self.now in
    IfErr-weaker c.push_changes.result _ _ (λ fault stopped by_token text has.
    stopped text has.of_old has.of_new (subst (λ (b : Bool). IsWalked b text self.tally.removed
    (sum_in self.tally.last) self.old self.new) (sym has.by) has.walked))
    c.push_changes.ensures.stopped
