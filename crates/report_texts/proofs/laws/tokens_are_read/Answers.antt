use Rattle.report_texts.proofs.Lines.{token_complete, token_sound}
use Rattle.report_texts.proofs.laws.tokens_are_read.Goals as goal

pub returns-clause-complete : goal.returns-clause-complete
returns-clause-complete c = token_complete

pub returns-clause-sound : goal.returns-clause-sound
returns-clause-sound c = token_sound
