use Rattle.std.proofs.Common.{◌%◌, ap, ◌∙◌}
use Rattle.tap_views.proofs.Numbers.{number_after}
use Rattle.tap_views.proofs.shard.shard_of.Goals as goal

pub returns-clause-value : goal.returns-clause-value
returns-clause-value c = ap (λ number. number % c.args.shards) (c.read_u16.ensures
    ∙ number_after 2 14 c.args.token.now c.requires.token)
