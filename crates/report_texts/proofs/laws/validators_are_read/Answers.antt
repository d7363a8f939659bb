use Rattle.report_texts.proofs.Lines.{validator_complete, validator_sound}
use Rattle.report_texts.proofs.laws.validators_are_read.Goals as goal

pub returns-clause-complete : goal.returns-clause-complete
returns-clause-complete c = validator_complete

pub returns-clause-sound : goal.returns-clause-sound
returns-clause-sound c = validator_sound
