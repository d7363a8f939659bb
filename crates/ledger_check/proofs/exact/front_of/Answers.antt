use Rattle.ledger_check.proofs.exact.front_of.Goals as goal

pub returns : goal.returns
returns c = (_, c.in_ok-token.ensures)
