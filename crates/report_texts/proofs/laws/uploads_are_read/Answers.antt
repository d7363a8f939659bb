use Rattle.report_texts.proofs.Lines.{upload_complete, upload_sound}
use Rattle.report_texts.proofs.laws.uploads_are_read.Goals as goal

pub returns-clause-complete : goal.returns-clause-complete
returns-clause-complete c = upload_complete

pub returns-clause-sound : goal.returns-clause-sound
returns-clause-sound c = upload_sound
