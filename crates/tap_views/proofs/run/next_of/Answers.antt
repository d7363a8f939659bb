use Rattle.std.proofs.Common.{◌≡◌, sym, ◌∙◌}
use Rattle.tap_views.specs.Shards.{shard_of_token}
use Rattle.tap_views.proofs.RunLemmas.{run_of-own}
use Rattle.tap_views.proofs.run.next_of.Goals as goal

pub returns-then-shard_of-shard : goal.returns-then-shard_of-shard
returns-then-shard_of-shard c =
    let own : shard_of_token c.in-Some.tap.token c.args.shards ≡ c.args.shard =
    rw (← c.token.ensures.bytes) (sym c.shard_of.ensures.value ∙ c.if-shard_of-shard.true) in
    sym c.loop-tap.invariant.left
    ∙ run_of-own c.args.shard c.args.shards c.loop-tap.taps c.next.new.self c.in-Some.tap
    c.in-Some.ensures.steps own
