use Rattle.std.proofs.Common.{◌≡◌, ◌+◌, sym, ap, ◌∙◌, arith, map, drop}
use Rattle.histories.specs.Sums.{Sums, sums_of, add_sums, add_all}
use Rattle.histories.proofs.SumsLemmas.{add_assoc}
use Rattle.fare_service.proofs.AddingLemmas.{next_worker, none_left, from_nothing}
use Rattle.fare_service.proofs.service.worker_totals.added.Goals as goal

pub loop-worker-init : goal.loop-worker-init
loop-worker-init c =
    from_nothing (sums_of c.new-totals.result) (add_all (map sums_of c.args.workers.now))
    c.new-totals.ensures

pub add_all-requires : goal.add_all-requires
add_all-requires c =
    let rest = add_all (map sums_of (drop (c.loop-worker.worker-index + 1) c.args.workers.now)) in
    let next : add_all (map sums_of (drop c.loop-worker.worker-index c.args.workers.now))
    ≡ add_sums (sums_of c.worker-item.result) rest =
    next_worker c.args.workers.now c.loop-worker.worker-index c.worker-item.result
    c.loop-worker-test.true ∙ ap (λ t. add_sums (sums_of t) rest) (sym c.worker-item.is) in
    let whole : c.loop-worker.totals.taps + (c.worker-item.result.taps + rest.taps)
    ≡ (add_all (map sums_of c.args.workers.now)).taps =
    ap (λ (s : Sums). c.loop-worker.totals.taps + s.taps) (sym next)
    ∙ ap (λ (s : Sums). s.taps) c.loop-worker.invariant in
    omega (arith, c.requires)

pub loop-worker-preserved : goal.loop-worker-preserved
loop-worker-preserved c =
    let rest = add_all (map sums_of (drop (c.loop-worker.worker-index + 1) c.args.workers.now)) in
    let next : add_all (map sums_of (drop c.loop-worker.worker-index c.args.workers.now))
    ≡ add_sums (sums_of c.worker-item.result) rest =
    next_worker c.args.workers.now c.loop-worker.worker-index c.worker-item.result
    c.loop-worker-test.true ∙ ap (λ t. add_sums (sums_of t) rest) (sym c.worker-item.is) in
    ap (λ (s : Sums). add_sums s rest) c.add_all.ensures
    ∙ (add_assoc (sums_of c.loop-worker.totals) (sums_of c.worker-item.result) rest
    ∙ (ap (add_sums (sums_of c.loop-worker.totals)) (sym next) ∙ c.loop-worker.invariant))

pub returns : goal.returns
returns c = sym
    (none_left (sums_of c.loop-worker.totals) c.args.workers.now c.loop-worker.worker-index
    (omega arith)) ∙ c.loop-worker.invariant
