-- What the account keeps decides the answer: nothing, or what its last trip says.
use Rattle.std.proofs.Common.{refl, ◌∙◌, Some}
use Rattle.account_rule.proofs.NoTransferLemmas.{none-first, none-kept}
use Rattle.account_rule.proofs.StepLemmas.{at_state, kept-fresh, kept-open, lacks_same}
use Rattle.account_rule.specs.Kept.{kept_numbers, kept_of, kept_trip}
use Rattle.account_rule.specs.{Represents.Represents, Taps.live_at, TokenRules.rules_of}
use Rattle.account_rule.proofs.account.Account.no_transfer.Goals as goal

pub returns-then-not-self-clause-lacks : goal.returns-then-not-self-clause-lacks
unfolding Represents
returns-then-not-self-clause-lacks c =
    λ taps holds. none-first (rules_of c.args.table.now c.args.token.now) (kept_of c.args.self.now)
    taps c.args.moment c.args.mode (kept-fresh _ c.if-not-self.true) holds

pub returns-clause-lacks : goal.returns-clause-lacks
unfolding Represents rules_of
returns-clause-lacks c =
    λ taps holds. c.spent.ensures.lacks
    ∙ lacks_same c.args.table.now c.args.token.now c.at-tariff.result.now.meaning c.args.moment
    c.class_of.result c.args.mode (kept_trip (Some (kept_numbers c.args.self.now)))
    c.at-tariff.ensures.meaning c.class_of.ensures.class
    ∙ none-kept (rules_of c.args.table.now c.args.token.now) (kept_of c.args.self.now)
    (kept_numbers c.args.self.now) taps
    c.args.moment c.args.mode (kept-open _ c.if-not-self.false) holds

pub returns-clause-modes : goal.returns-clause-modes
unfolding Represents kept_trip live_at
returns-clause-modes c =
    λ rules taps holds below. c.spent.ensures.modes rules.modes
    ((at_state rules (kept_of c.args.self.now) (kept_numbers c.args.self.now) taps
    (kept-open c.args.self.now c.if-not-self.false) holds).mode _ refl) below
