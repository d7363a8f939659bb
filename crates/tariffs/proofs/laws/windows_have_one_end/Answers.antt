use Rattle.tariffs.proofs.UntilLemmas.{until-is}
use Rattle.tariffs.specs.Fares.{meaning_at}
use Rattle.tariffs.proofs.laws.windows_have_one_end.Goals as goal

pub returns : goal.returns
returns c = λ fares start window_end is. until-is fares.zone (meaning_at fares start).window start
    window_end is
