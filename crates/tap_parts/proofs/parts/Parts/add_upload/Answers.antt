use Rattle.std.proofs.Common.{length, ap, refl, arith, length-append}
use Rattle.tap_views.specs.Files.{taps_of_batches}
use Rattle.tap_parts.proofs.Adding.{none_added, batch_added}
use Rattle.tap_views.proofs.ParseLemmas.{read_end, read_on, room_on, taps_more}
use Rattle.tap_parts.proofs.parts.Parts.add_upload.Goals as goal

pub loop-batch-init : goal.loop-batch-init
loop-batch-init g c = record {
  may = tt;
  ends = tt;
  read = c.valid_batches-valid.ensures;
  added = none_added (g.P.PartRule.part_of c.args.rule.now) c.args.self.now;
  number = refl;
}

pub loop-batch-preserved : goal.loop-batch-preserved
loop-batch-preserved g c =
    let before = c.loop-batch.invariant in
    let done = c.loop-batch.yielded in
    let batch = c.in-Some.batch in
    record {
      may = tt;
      ends = tt;
      read = read_on _ _ _ _ _ before.read c.in-Some.ensures.steps;
      added = batch_added (g.P.PartRule.part_of c.args.rule.now) done batch c.args.self.now
          c.loop-batch.self c.add.new.self before.added c.in_ok-add.ensures;
      number = omega (
        arith,
        before.number,
        ap length (taps_more done batch),
        length-append (taps_of_batches done) batch,
        c.len.ensures.number,
      );
    }

pub overflow_add-taps : goal.overflow_add-taps
overflow_add-taps g c =
    let before = c.loop-batch.invariant in
    let room = room_on c.args.upload.now c.loop-batch.yielded c.in-Some.batch c.loop-batch.valid
    c.next.new.self before.read c.in-Some.ensures.steps in
    omega (arith, room.0, before.number, c.len.ensures.number)

pub returns : goal.returns
returns g c =
    let end = c.loop-batch.invariant in
    record {
      batches = c.loop-batch.yielded;
      read = read_end _ _ _ _ _ end.read c.in_default.ensures.steps c.fault.ensures;
      number = end.number;
      added = end.added;
    }
