use Rattle.report_texts.proofs.Lines.{head_complete, head_sound}
use Rattle.report_texts.proofs.laws.heads_are_read.Goals as goal

pub returns-clause-complete : goal.returns-clause-complete
returns-clause-complete c = head_complete

pub returns-clause-sound : goal.returns-clause-sound
returns-clause-sound c = head_sound
