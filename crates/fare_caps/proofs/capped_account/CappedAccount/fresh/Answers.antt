use Rattle.std.proofs.Common.{[]}
use Rattle.account_rule.specs.TokenRules.{rules_of}
use Rattle.fare_caps.proofs.FurtherLemmas.{keeps-nothing}
use Rattle.fare_caps.specs.{CapMeanings.capped_rules_of, Represents.RepresentsSome}
use Rattle.fare_caps.proofs.capped_account.CappedAccount.fresh.Goals as goal

pub returns-clause-holds : goal.returns-clause-holds
unfolding capped_rules_of
returns-clause-holds c = λ fares token. record {
  account = c.fresh.ensures.holds (rules_of fares token);
  further = λ more. rw c.none.ensures (keeps-nothing fares token);
}

pub returns-clause-some : goal.returns-clause-some
unfolding RepresentsSome
returns-clause-some c = λ fares token. ([], returns-clause-holds c fares token)
