use Rattle.std.proofs.Common.{◌≡◌, ◌<◌, [], length, get_or, ◌∙◌, arith}
use Rattle.std.proofs.lemmas.List.{get_or_default}
use Rattle.tap_views.specs.Runs.{positions_from}
use Rattle.tap_views.proofs.runs.Runs.run.Goals as goal

pub run_at-requires-clause-positions : goal.run_at-requires-clause-positions
run_at-requires-clause-positions c =
    let lists = c.self.inside.lists.items in
    let shards : c.len.result ≡ length lists = omega arith in
    let within : c.args.shard < length lists = rw c.self.view_is c.requires.below in
    let each : get_or lists c.args.shard []
    ≡ positions_from c.args.shard (length lists) 0 c.args.batch.now =
    rw c.self.view_is (c.requires.runs.each c.args.shard c.requires.below) in
    rw shards (c.as_slice.ensures ∙ c.index.ensures
    ∙ get_or_default lists c.args.shard c.index.result.now [] within ∙ each)
