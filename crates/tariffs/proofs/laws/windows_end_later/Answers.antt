use Rattle.tariffs.proofs.UntilLemmas.{until-later}
use Rattle.tariffs.proofs.laws.windows_end_later.Goals as goal

pub returns : goal.returns
returns c = until-later
