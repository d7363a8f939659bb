use Rattle.report_texts.proofs.Lines.{totals_complete, totals_sound}
use Rattle.report_texts.proofs.laws.totals_are_read.Goals as goal

pub returns-clause-complete : goal.returns-clause-complete
returns-clause-complete c = totals_complete

pub returns-clause-sound : goal.returns-clause-sound
returns-clause-sound c = totals_sound
