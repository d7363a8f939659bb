use Rattle.std.proofs.Common.{Err, ap}
use Rattle.std.proofs.lemmas.{List.take_rest, Result.err_from_is_err_and}
use Rattle.tap_views.proofs.{Deciding.same_fault, Grammar.begins, Grammar.no_row}
use Rattle.tap_views.proofs.Grammar.{measured-no_row, first-found, first-only, first-records}
use Rattle.tap_views.proofs.batch.Batch.first.Goals as goal

pub returns-in_err-count-clause-only : goal.returns-in_err-count-clause-only
returns-in_err-count-clause-only c front rest taps batch whole =
    absurd (no_row _ taps rest _ (begins batch.0 front taps rest _ batch.1 whole)
    c.in_err-count.ensures.fault.holds)

pub invariant_of-result : goal.invariant_of-result
invariant_of-result c = rw (
  c.split_at.ensures.front,
  c.width_of.ensures,
  c.header_in.ensures,
  take_rest,
) (first-records _ _ c.in_ok-count.ensures.count _ c.shared_in-shared.ensures)

pub returns-clause-found : goal.returns-clause-found
returns-clause-found c = rw (
  c.split_at.ensures.front,
  c.split_at.ensures.back,
  c.width_of.ensures,
  c.header_in.ensures,
  take_rest,
)
    (first-found _ _ c.in_ok-count.ensures.count _ c.shared_in-shared.ensures)

pub returns-clause-only : goal.returns-clause-only
returns-clause-only c front rest taps batch whole =
    rw (
      c.split_at.ensures.front,
      c.split_at.ensures.back,
      c.width_of.ensures,
      c.header_in.ensures,
      take_rest,
    )
    (first-only _ _ c.in_ok-count.ensures.count _ c.shared_in-shared.ensures front rest taps batch
    whole)

pub returns-in_err-count-clause-refused : goal.returns-in_err-count-clause-refused
returns-in_err-count-clause-refused c fault is =
    let reported = err_from_is_err_and c.from_residual.result c.from_residual.ensures.1 in
    rw (reported.1, reported.2) (ap Err
    (same_fault c.args.bytes.now c.in_err-count.field-0.0 fault c.in_err-count.ensures.fault
    is))

pub returns-clause-refused : goal.returns-clause-refused
returns-clause-refused c fault is =
    absurd (measured-no_row c.args.bytes.now _ fault c.in_ok-count.ensures.count is.holds)
