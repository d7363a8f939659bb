use Rattle.std.proofs.Common.{◌≡◌, ◌<◌, [], length, get_or, ap, ◌∙◌, arith}
use Rattle.std.proofs.lemmas.List.{get_or_default}
use Rattle.tap_views.proofs.{RunLemmas.few_taps, Sorted.positions_count}
use Rattle.tap_views.specs.{Runs.positions_from, Shards.run_of}
use Rattle.tap_views.proofs.runs.Runs.len_of.Goals as goal

pub returns-clause-number : goal.returns-clause-number
returns-clause-number c =
    let lists = c.self.inside.lists.items in
    let within : c.args.shard < length lists = rw c.self.view_is c.requires.below in
    let each : get_or lists c.args.shard []
    ≡ positions_from c.args.shard (length lists) 0 c.args.batch.now =
    rw c.self.view_is (c.requires.runs.each c.args.shard c.requires.below) in
    rw (← c.self.view_is)
    (ap length (c.as_slice.ensures ∙ c.index.ensures
    ∙ get_or_default lists c.args.shard c.index.result.now [] within ∙ each)
    ∙ positions_count c.args.shard (length lists) 0 c.args.batch.now)

pub returns-clause-most : goal.returns-clause-most
returns-clause-most c =
    let number : length c.as_slice.result.now
    ≡ length (run_of c.args.shard (length c.args.self.now) c.args.batch.now) =
    returns-clause-number c in
    omega (
      arith,
      number,
      few_taps c.args.shard (length c.args.self.now) c.args.batch.now,
      c.len-count.ensures.number,
      c.len-count.ensures.most,
    )

pub overflow_cast-result : goal.overflow_cast-result
overflow_cast-result c =
    let number : length c.as_slice.result.now
    ≡ length (run_of c.args.shard (length c.args.self.now) c.args.batch.now) =
    returns-clause-number c in
    omega (
      arith,
      number,
      few_taps c.args.shard (length c.args.self.now) c.args.batch.now,
      c.len-count.ensures.number,
      c.len-count.ensures.most,
    )
