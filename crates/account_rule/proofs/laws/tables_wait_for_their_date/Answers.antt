use Rattle.account_rule.proofs.AgreeLemmas.{next-waits}
use Rattle.account_rule.proofs.laws.tables_wait_for_their_date.Goals as goal

pub returns : goal.returns
returns c = next-waits
