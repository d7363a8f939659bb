use Rattle.tariffs.proofs.UntilLemmas.{long-is}
use Rattle.tariffs.proofs.laws.long_windows_end_as_a_day_starts.Goals as goal

pub returns : goal.returns
returns c = long-is
