use Rattle.std.proofs.Common.{inr, refl, length, sym, ◌∙◌, ap, arith}
use Rattle.fare_service.proofs.FullLemmas.{full_here, full_stays, is_full, own_grows, the_error}
use Rattle.fare_service.proofs.FullLemmas.{reports_ok, reports_refused, visits_full}
use Rattle.fare_service.proofs.RunVisits.{book_at, replies_few, run_empty, run_full, run_refused}
use Rattle.fare_service.proofs.RunVisits.{run_some, run_visited, within_passes}
use Rattle.fare_service.proofs.VisitLemmas.{taps_after}
use Rattle.fare_service.specs.ServiceView.{shards_of}
use Rattle.fare_service.specs.declared.service.working.Stop.TheVariants.{Memory}
use Rattle.histories.specs.Sums.{sums_of}
use Rattle.shard_book.specs.declared.run_end.RunEnd.TheVariants.{Whole, Cut}
use Rattle.tap_views.specs.Shards.{run_of}
use Rattle.fare_service.proofs.service.Service.post_run.Goals as goal

pub returns-then-len-eq0-clause-made : goal.returns-then-len-eq0-clause-made
returns-then-len-eq0-clause-made g c =
    run_empty (shards_of c.args.self.now) c.args.shard c.args.batch.now
    c.args.posting.now.passes.items (sums_of c.args.posting.now.totals)
    (sym (ap (λ shards. length (run_of c.args.shard shards c.args.batch.now)) c.requires.shards)
    ∙ (sym c.len_of-len.ensures.number ∙ c.if-len-eq0.true))

pub returns-in_err-reserve-clause-made : goal.returns-in_err-reserve-clause-made
returns-in_err-reserve-clause-made g c =
    run_refused (shards_of c.args.self.now) c.args.shard c.args.batch.now
    c.args.posting.now.passes.items (sums_of c.args.posting.now.totals)
    c.from_residual.result
    (run_some c.args.shard (length c.args.runs.now) (shards_of c.args.self.now) c.len_of-len.result
    c.args.batch.now c.requires.shards c.len_of-len.ensures.number (omega arith))
    c.from_residual.ensures.0

pub visit-requires-clause-shard : goal.visit-requires-clause-shard
visit-requires-clause-shard g c =
    let count = ap shards_of c.self.view_is in
    let book = book_at _ c.args.shard c.index.result.now c.self.invariant
    (omega (arith, c.requires.shard, count)) c.index.ensures in
    let run = c.run-run.ensures in
    ap (λ r. r.shard) run ∙ sym book.its_shard

pub visit-requires-clause-shards : goal.visit-requires-clause-shards
visit-requires-clause-shards g c =
    let count = ap shards_of c.self.view_is in
    let book = book_at _ c.args.shard c.index.result.now c.self.invariant
    (omega (arith, c.requires.shard, count)) c.index.ensures in
    ap (λ r. r.shards) c.run-run.ensures ∙ (c.requires.shards ∙ (sym count ∙ sym book.of_shards))

pub visit-requires-clause-clock : goal.visit-requires-clause-clock
visit-requires-clause-clock g c =
    let count = ap shards_of c.self.view_is in
    let book = book_at _ c.args.shard c.index.result.now c.self.invariant
    (omega (arith, c.requires.shard, count)) c.index.ensures in
    c.requires.clock
    ∙ (sym (ap (λ h. h.table.zone) c.self.view_is) ∙ sym (ap (λ t. t.zone) book.its_table))

pub returns-in_err-visit-clause-made : goal.returns-in_err-visit-clause-made
returns-in_err-visit-clause-made g c =
    run_full (shards_of c.args.self.now) c.args.shard c.args.batch.now
    c.args.posting.now.passes.items c.index_mut.result.now c.visit.new.pass
    (sums_of c.args.posting.now.totals) c.from_residual-in_err-visit.result
    (run_some c.args.shard (length c.args.runs.now) (shards_of c.args.self.now) c.len_of-len.result
    c.args.batch.now c.requires.shards c.len_of-len.ensures.number (omega arith))
    c.from_residual-in_err-visit.ensures.0
    (within_passes c.args.posting.now.passes.items c.args.self.now.books c.args.shard
    c.requires.passes c.requires.shard)
    c.index_mut.ensures.value c.in_err-visit.ensures.full.0

pub count-requires : goal.count-requires
count-requires g c =
    let made = c.in_ok-visit.ensures.visit in
    let few = replies_few c.run-run.result c.args.shard (length c.args.runs.now) c.len_of-len.result
    c.args.batch.now c.in_ok-visit.visit.how made.visit _ c.visit.new.out.items c.run-run.ensures
    c.len_of-len.ensures.number c.len_of-len.ensures.most made.of_run
    (c.in_ok-reserve.ensures.items ∙ c.clear.ensures.items) made.items in
    omega (arith, c.requires.room, few)

pub returns-in-Whole-clause-made : goal.returns-in-Whole-clause-made
returns-in-Whole-clause-made g c =
    let made = c.in_ok-visit.ensures.visit in
    run_visited (shards_of c.args.self.now) c.args.shard (length c.args.runs.now) c.args.batch.now
    c.run-run.result c.args.posting.now.passes.items c.index_mut.result.now c.visit.new.pass
    c.in_ok-visit.visit.number c.in_ok-visit.visit.how Whole made.visit
    (sums_of c.args.posting.now.totals) (sums_of c.count.new.totals) _ c.visit.new.out.items
    c.run-run.ensures c.requires.shards
    (run_some c.args.shard (length c.args.runs.now) (shards_of c.args.self.now) c.len_of-len.result
    c.args.batch.now c.requires.shards c.len_of-len.ensures.number (omega arith))
    c.requires.shard
    (within_passes c.args.posting.now.passes.items c.args.self.now.books c.args.shard
    c.requires.passes c.requires.shard)
    c.index_mut.ensures.value made.holds made.of_run c.in-Whole.is
    (c.in_ok-reserve.ensures.items ∙ c.clear.ensures.items) made.items c.count.ensures

pub returns-in-Whole-clause-few : goal.returns-in-Whole-clause-few
returns-in-Whole-clause-few g c =
    let made = c.in_ok-visit.ensures.visit in
    let few = replies_few c.run-run.result c.args.shard (length c.args.runs.now) c.len_of-len.result
    c.args.batch.now c.in_ok-visit.visit.how made.visit _ c.visit.new.out.items c.run-run.ensures
    c.len_of-len.ensures.number c.len_of-len.ensures.most made.of_run
    (c.in_ok-reserve.ensures.items ∙ c.clear.ensures.items) made.items in
    let more = ap (λ s. s.taps) c.count.ensures
    ∙ taps_after (sums_of c.args.posting.now.totals) c.visit.new.out.items in
    omega (arith, few, more)

pub returns-in-Cut-clause-made : goal.returns-in-Cut-clause-made
returns-in-Cut-clause-made g c =
    let made = c.in_ok-visit.ensures.visit in
    run_visited (shards_of c.args.self.now) c.args.shard (length c.args.runs.now) c.args.batch.now
    c.run-run.result c.args.posting.now.passes.items c.index_mut.result.now c.visit.new.pass
    c.in_ok-visit.visit.number c.in_ok-visit.visit.how (Cut c.in-Cut.posted) made.visit
    (sums_of c.args.posting.now.totals) (sums_of c.count.new.totals) _ c.visit.new.out.items
    c.run-run.ensures c.requires.shards
    (run_some c.args.shard (length c.args.runs.now) (shards_of c.args.self.now) c.len_of-len.result
    c.args.batch.now c.requires.shards c.len_of-len.ensures.number (omega arith))
    c.requires.shard
    (within_passes c.args.posting.now.passes.items c.args.self.now.books c.args.shard
    c.requires.passes c.requires.shard)
    c.index_mut.ensures.value made.holds made.of_run c.in-Cut.is
    (c.in_ok-reserve.ensures.items ∙ c.clear.ensures.items) made.items c.count.ensures

pub returns-in-Cut-clause-few : goal.returns-in-Cut-clause-few
returns-in-Cut-clause-few g c =
    let made = c.in_ok-visit.ensures.visit in
    let few = replies_few c.run-run.result c.args.shard (length c.args.runs.now) c.len_of-len.result
    c.args.batch.now c.in_ok-visit.visit.how made.visit _ c.visit.new.out.items c.run-run.ensures
    c.len_of-len.ensures.number c.len_of-len.ensures.most made.of_run
    (c.in_ok-reserve.ensures.items ∙ c.clear.ensures.items) made.items in
    let more = ap (λ s. s.taps) c.count.ensures
    ∙ taps_after (sums_of c.args.posting.now.totals) c.visit.new.out.items in
    omega (arith, few, more)

pub returns-then-len-eq0-clause-full : goal.returns-then-len-eq0-clause-full
returns-then-len-eq0-clause-full g c = reports_ok tt _ _ (λ h. h)

pub returns-in_err-reserve-clause-full : goal.returns-in_err-reserve-clause-full
returns-in_err-reserve-clause-full g c =
    reports_refused c.from_residual.result _ _
    (the_error c.from_residual.result Memory c.from_residual.ensures.1) (λ h. h)

pub returns-in_err-visit-clause-full : goal.returns-in_err-visit-clause-full
returns-in_err-visit-clause-full g c =
    λ h. full_here c.args.posting.now.passes.items c.args.shard c.visit.new.pass
    (within_passes c.args.posting.now.passes.items c.args.self.now.books c.args.shard
    c.requires.passes c.requires.shard)
    (is_full c.visit.new.pass c.in_err-visit.ensures.full.1)

pub returns-in-Whole-clause-full : goal.returns-in-Whole-clause-full
returns-in-Whole-clause-full g c =
    reports_ok tt _ _
    (full_stays c.args.posting.now.passes.items c.args.shard c.index_mut.result.now c.visit.new.pass
    (within_passes c.args.posting.now.passes.items c.args.self.now.books c.args.shard
    c.requires.passes c.requires.shard)
    c.index_mut.ensures.value
    (visits_full c.index_mut.result.now c.visit.new.pass _ _ c.in_ok-visit.ensures.visit.holds))

pub returns-in-Cut-clause-full : goal.returns-in-Cut-clause-full
returns-in-Cut-clause-full g c =
    reports_refused _ _ _ refl
    (full_stays c.args.posting.now.passes.items c.args.shard c.index_mut.result.now c.visit.new.pass
    (within_passes c.args.posting.now.passes.items c.args.self.now.books c.args.shard
    c.requires.passes c.requires.shard)
    c.index_mut.ensures.value
    (visits_full c.index_mut.result.now c.visit.new.pass _ _ c.in_ok-visit.ensures.visit.holds))

pub returns-in-Cut-clause-memory : goal.returns-in-Cut-clause-memory
returns-in-Cut-clause-memory g c =
    λ is. inr (
      c.in_ok-visit.ensures.visit.visit,
      own_grows c.args.posting.now.passes.items c.args.shard c.index_mut.result.now c.visit.new.pass
          _ _
          (within_passes c.args.posting.now.passes.items c.args.self.now.books c.args.shard
          c.requires.passes c.requires.shard)
          c.index_mut.ensures.value c.in_ok-visit.ensures.visit.holds,
    )
