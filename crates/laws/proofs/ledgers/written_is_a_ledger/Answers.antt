use Rattle.laws.proofs.LedgerTokens.{written_is_read}
use Rattle.laws.proofs.ledgers.written_is_a_ledger.Goals as goal

pub returns : goal.returns
returns c = λ fares only history text can short over. written_is_read fares only history text can
    short over
