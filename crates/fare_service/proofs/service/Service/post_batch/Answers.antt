use Rattle.std.proofs.Common.{ℕ, ◌≡◌, [], ◌∙◌, inl, subst, refl, arith}
use Rattle.fare_service.proofs.BatchLemmas.{Posts, batch_more, batch_cut, cuts_reported}
use Rattle.fare_service.proofs.FullLemmas.{handed_on, reports_ok, the_error}
use Rattle.fare_service.proofs.VisitLemmas.{made_none}
use Rattle.fare_service.specs.{Runs.runs_below, ServiceView.shards_of}
use Rattle.histories.specs.Sums.{sums_of}
use Rattle.fare_service.proofs.service.Service.post_batch.Goals as goal

pub loop-shard-init : goal.loop-shard-init
loop-shard-init g c = record {
  passes = c.requires.passes;
  clock = refl;
  runs = c.fill.ensures.runs;
  shards = c.fill.ensures.shards ∙ c.requires.runs;
  room = omega arith;
  within = omega arith;
  full = λ h. h;
  made = (
    [],
    made_none (shards_of c.args.self.now) c.args.posting.now.passes.items
        (sums_of c.args.posting.now.totals),
    refl,
  );
}

pub loop-shard-preserved : goal.loop-shard-preserved
loop-shard-preserved g c =
    let shards = shards_of c.args.self.now in
    record {
      passes = c.in_ok-post_run.ensures.made.1.books ∙ c.loop-shard.invariant.passes;
      clock = c.in_ok-post_run.ensures.clock ∙ c.loop-shard.invariant.clock;
      runs = c.loop-shard.invariant.runs;
      shards = c.loop-shard.invariant.shards;
      room = omega (arith, c.in_ok-post_run.ensures.few, c.loop-shard.invariant.room);
      within = omega (arith, c.loop-shard-test.true);
      full = λ h. c.in_ok-post_run.ensures.full (inl (c.loop-shard.invariant.full h));
      made = batch_more shards c.loop-shard.shard c.args.batch.now
          c.args.posting.now.passes.items c.loop-shard.posting.passes.items
          c.post_run.new.posting.passes.items
          (sums_of c.args.posting.now.totals) (sums_of c.loop-shard.posting.totals)
          (sums_of c.post_run.new.posting.totals) (c.loop-shard.invariant.made)
          (c.in_ok-post_run.ensures.made);
    }

pub returns-in_err-post_run-clause-made : goal.returns-in_err-post_run-clause-made
returns-in_err-post_run-clause-made g c =
    let shards = shards_of c.args.self.now in
    cuts_reported c.from_residual.result shards c.args.posting.now.passes.items
    c.post_run.new.posting.passes.items (sums_of c.args.posting.now.totals)
    (sums_of c.post_run.new.posting.totals)
    (runs_below shards shards c.args.batch.now) c.from_residual.ensures.0
    (batch_cut shards c.loop-shard.shard c.args.batch.now
    c.args.posting.now.passes.items c.loop-shard.posting.passes.items
    c.post_run.new.posting.passes.items
    (sums_of c.args.posting.now.totals) (sums_of c.loop-shard.posting.totals)
    (sums_of c.post_run.new.posting.totals)
    (omega (arith, c.loop-shard-test.true, c.shards-shard-end.ensures.number))
    (c.loop-shard.invariant.made) (c.in_err-post_run.ensures.made))

pub returns-clause-made : goal.returns-clause-made
returns-clause-made g c =
    let shards = shards_of c.args.self.now in
    let all : c.loop-shard.shard ≡ shards =
    omega (
      arith,
      c.loop-shard-test.false,
      c.loop-shard.auto.shard-end,
      c.shards-shard-end.ensures.number,
    ) in
    let N : ℕ → Type 0 =
    λ n. Posts shards c.args.posting.now.passes.items c.loop-shard.posting.passes.items
    (sums_of c.args.posting.now.totals) (sums_of c.loop-shard.posting.totals)
    (runs_below shards n c.args.batch.now) in
    subst N all (c.loop-shard.invariant.made)

pub returns-in_err-post_run-clause-full : goal.returns-in_err-post_run-clause-full
returns-in_err-post_run-clause-full g c =
    handed_on c.post_run.result c.from_residual.result c.in_err-post_run.field-0.0 _ _ _
    c.in_err-post_run.was
    (the_error c.from_residual.result c.in_err-post_run.field-0.0 c.from_residual.ensures.1)
    c.loop-shard.invariant.full c.post_run.ensures.full

pub returns-clause-full : goal.returns-clause-full
returns-clause-full g c = reports_ok tt _ _ c.loop-shard.invariant.full
