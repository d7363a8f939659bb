-- Each kind of reason has its reply, and a transfer its ride.
use Rattle.account_rule.proofs.ReasonLemmas.{giver-ride, reply-follows}
use Rattle.account_rule.proofs.laws.replies_follow_reasons.Goals as goal

pub returns-clause-replies : goal.returns-clause-replies
returns-clause-replies c = λ rules earlier tap. reply-follows rules earlier tap

pub returns-clause-givers : goal.returns-clause-givers
returns-clause-givers c = λ rules earlier tap moment mode. giver-ride rules earlier tap moment mode
