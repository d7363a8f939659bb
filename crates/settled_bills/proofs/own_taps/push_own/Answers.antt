use Rattle.std.proofs.Common.{◌∙◌, sym, ap}
use Rattle.settled_bills.proofs.OwnTaps.{is_own, not_own}
use Rattle.std.proofs.lemmas.Bool.{not-false, not-true}
use Rattle.tap_views.specs.{Token.token_eq, declared.token.Token.Token}
use Rattle.settled_bills.proofs.own_taps.push_own.Goals as goal

pub returns-then-ne : goal.returns-then-ne
returns-then-ne c =
    let own = c.in-Some.own in
    not_own c.args.token own c.args.tap.now c.args.taps.now.items c.in-Some.is
    (ap (λ (t : Token). token_eq t own) (sym c.name_of-name.ensures.token)
    ∙ not-true (token_eq c.name_of-name.result own) (sym c.ne.ensures ∙ c.if-ne.true))
    c.name_of-name.ensures.named

pub returns : goal.returns
returns c =
    let own = c.in-Some.own in
    is_own c.args.token own c.args.tap.now c.args.taps.now.items c.push.new.self.items c.in-Some.is
    (ap (λ (t : Token). token_eq t own) (sym c.name_of-name.ensures.token)
    ∙ not-false (token_eq c.name_of-name.result own) (sym c.ne.ensures ∙ c.if-ne.false))
    c.name_of-name.ensures.named c.in_ok-push.ensures.items
