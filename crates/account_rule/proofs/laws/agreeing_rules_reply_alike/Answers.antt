use Rattle.account_rule.proofs.AgreeLemmas.{replies-alike}
use Rattle.account_rule.proofs.laws.agreeing_rules_reply_alike.Goals as goal

pub returns : goal.returns
returns c = replies-alike
