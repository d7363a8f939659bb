use Rattle.std.proofs.Common.{◌≤◌, length, Some, sym, arith}
use Rattle.std.proofs.lemmas.List.{length-take-le}
use Rattle.tap_views.specs.Files.{IsReadAs}
use Rattle.tap_views.proofs.ParseLemmas.{read_end, read_on}
use Rattle.tap_views.proofs.Fronts.{is_front, whole_front}
use Rattle.tap_views.proofs.front.valid_prefix.Goals as goal

pub loop-batch-preserved : goal.loop-batch-preserved
loop-batch-preserved c = record {
  may = tt;
  ends = tt;
  read = read_on _ _ _ _ _ c.loop-batch.invariant.read c.in-Some.ensures.steps;
}

pub slice_bounds-result-end : goal.slice_bounds-result-end
slice_bounds-result-end c =
    let read : IsReadAs c.args.upload.now c.loop-batch.yielded
    (Some (c.in-Some-fault.offset, c.in-Some-fault.field-0-1)) =
    read_end _ _ _ _ _ c.loop-batch.invariant.read c.in_default.ensures.steps
    c.in-Some-fault.ensures in
    let fits : c.in-Some-fault.offset ≤ length c.args.upload.now =
    omega (arith, read.is_end.holds_at) in
    sym (length-take-le _ _ fits)

pub returns-in-Some-fault : goal.returns-in-Some-fault
returns-in-Some-fault c =
    let read = read_end _ _ _ _ _ c.loop-batch.invariant.read c.in_default.ensures.steps
    c.in-Some-fault.ensures in
    is_front _ _ _ _ read.is_file read.is_end.holds_at

pub returns-in-None : goal.returns-in-None
returns-in-None c =
    let read = read_end _ _ _ _ _ c.loop-batch.invariant.read c.in_default.ensures.steps
    c.in-None.ensures in
    whole_front _ _ _ read.is_file read.is_end
