use Rattle.std.proofs.Common.{List, ◌++◌, ◌∙◌, ap, subst}
use Rattle.settled_bills.specs.{declared.own_by_threads.OwnTaps.OwnTaps, inside.OwnTaps.IsOwnOf}
use Rattle.sorted_taps.specs.declared.fault.SortedFault.{SortedFault}
use Rattle.std.specs.Prelude.{IfOk, Result}
use Rattle.tap_views.specs.declared.encoder.TapFields.{TapFields}
use Rattle.settled_bills.proofs.own_by_threads.add_next.Goals as goal

pub returns-in_ok-push-in-Ok-clause-own : goal.returns-in_ok-push-in-Ok-clause-own
returns-in_ok-push-in-Ok-clause-own c = λ token all is. (
  c.in-Ok.own,
  subst (λ (r : Result OwnTaps SortedFault). IfOk r (IsOwnOf token all)) c.in-Ok.is is,
  c.in_ok-extend_from_slice-in-Ok.ensures.items
      ∙ ap (λ (ts : List TapFields). c.args.taps.now.items ++ ts) c.deref.ensures.value,
  c.in_ok-push-in-Ok.ensures.items,
)
