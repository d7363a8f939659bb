use Rattle.std.proofs.Common.{List, ℕ, [], ◌∷◌, length, map, ap, ◌∙◌, sym, subst, arith}
use Rattle.std.proofs.{Common.length-append, lemmas.List.map-append}
use Rattle.tap_views.proofs.ParseLemmas.{read_end, read_on, room_on, taps_more}
use Rattle.tap_views.specs.{Facts.IsSpan, Facts.moment_of, Files.taps_of_batches}
use Rattle.tap_views.proofs.facts.facts_of.Goals as goal

pub loop-batch-preserved : goal.loop-batch-preserved
loop-batch-preserved c =
    let before = c.loop-batch.invariant in
    let done = c.loop-batch.yielded in
    let batch = c.in-Some.batch in
    let all = taps_more done batch in
    let P : List ℕ → Type 0 = λ moments. IsSpan moments c.over_batch-span.result in
    record {
      may = tt;
      ends = tt;
      read = read_on _ _ _ _ _ before.read c.in-Some.ensures.steps;
      number = omega (arith, before.number, length-append done (batch ∷ []));
      taps = omega (
        arith,
        before.taps,
        ap length all,
        length-append (taps_of_batches done) batch,
        c.len.ensures.number,
      );
      span = subst P (sym (map-append moment_of (taps_of_batches done) batch)
          ∙ ap (map moment_of) (sym all))
          (c.over_batch-span.ensures (map moment_of (taps_of_batches done)) before.span);
    }

pub overflow_add-taps : goal.overflow_add-taps
overflow_add-taps c =
    let before = c.loop-batch.invariant in
    let room = room_on c.args.upload.now c.loop-batch.yielded c.in-Some.batch c.loop-batch.valid
    c.next.new.self before.read c.in-Some.ensures.steps in
    omega (arith, room.0, before.taps, c.len.ensures.number)

pub overflow_add-count : goal.overflow_add-count
overflow_add-count c =
    let before = c.loop-batch.invariant in
    let room = room_on c.args.upload.now c.loop-batch.yielded c.in-Some.batch c.loop-batch.valid
    c.next.new.self before.read c.in-Some.ensures.steps in
    omega (arith, room.1, before.number)

pub returns : goal.returns
returns c =
    let end = c.loop-batch.invariant in
    record {
      read_batches = c.loop-batch.yielded;
      read = read_end _ _ _ _ _ end.read c.in_default.ensures.steps c.fault.ensures;
      number = end.number;
      tap_number = end.taps;
      moments = end.span;
    }
