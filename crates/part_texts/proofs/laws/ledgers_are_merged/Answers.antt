use Rattle.part_texts.proofs.LedgerParts.{merged_is_whole}
use Rattle.part_texts.proofs.laws.ledgers_are_merged.Goals as goal

pub returns : goal.returns
returns c = record { whole = merged_is_whole }
