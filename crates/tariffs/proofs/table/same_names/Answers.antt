use Rattle.std.proofs.Common.{◌∙◌}
use Rattle.tariffs.proofs.DatedLemmas.{names-mapped}
use Rattle.tariffs.proofs.table.same_names.Goals as goal

pub returns : goal.returns
returns c = c.eq.ensures ∙ names-mapped c.args.names.now c.args.others.now
