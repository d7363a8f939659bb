use Rattle.std.proofs.Common.{length, ap, ◌∙◌, sym, refl, append-nil, arith, length-append, []}
use Rattle.settlement.proofs.OnlyTaps.{only_batch, only_more}
use Rattle.tap_views.proofs.ParseLemmas.{valid_taps, read_end, read_on, room_on, taps_more}
use Rattle.tap_views.specs.{Files.taps_of_batches, UploadEnds.end_by}
use Rattle.settlement.proofs.own_taps.TokenChoiceVecTapFields.add.Goals as goal

pub loop-batch-init : goal.loop-batch-init
loop-batch-init c = record {
  may = tt;
  ends = tt;
  read = c.valid_batches-valid.ensures;
  added = sym (append-nil c.args.kept.now.items);
  count = refl;
}

pub loop-batch-preserved : goal.loop-batch-preserved
loop-batch-preserved c =
    let before = c.loop-batch.invariant in
    let done = c.loop-batch.yielded in
    let batch = c.in-Some.batch in
    record {
      may = tt;
      ends = tt;
      read = read_on _ _ _ _ _ before.read c.in-Some.ensures.steps;
      added = only_batch c.args.self.now c.args.kept.now.items c.loop-batch.kept.items
          c.add_batch.new.taps.items done batch before.added c.in_ok-add_batch.ensures;
      count = omega (
        arith,
        before.count,
        ap length (taps_more done batch),
        length-append (taps_of_batches done) batch,
        c.len.ensures.number,
      );
    }

pub overflow_add-number : goal.overflow_add-number
overflow_add-number c =
    let before = c.loop-batch.invariant in
    let room = room_on c.args.upload.now c.loop-batch.yielded c.in-Some.batch c.loop-batch.valid
    c.next.new.self before.read c.in-Some.ensures.steps in
    omega (arith, room.0, before.count, c.len.ensures.number)

pub returns : goal.returns
returns c =
    let end = c.loop-batch.invariant in
    let read = read_end _ _ _ _ _ end.read c.in_default.ensures.steps c.fault.ensures in
    record {
      taps = taps_of_batches c.loop-batch.yielded;
      of_upload = valid_taps _ _ _ read;
      added = λ before is. only_more c.args.self.now [] c.args.kept.now.items c.loop-batch.kept.items
          before (taps_of_batches c.loop-batch.yielded) is end.added;
      ended = record {
        batches = c.loop-batch.yielded;
        rest = read.rest;
        fault = c.fault.result;
        is_file = read.is_file;
        is_fault = read.is_end;
        ended = c.by_fault.ensures ∙ ap (λ n. end_by n c.fault.result) end.count;
      };
    }
