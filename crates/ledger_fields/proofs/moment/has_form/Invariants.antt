use Rattle.std.proofs.Common.{◌≡◌, ◌&&◌, drop}
use Rattle.ledger_fields.specs.Moments.{has_form, moment_form}
use Rattle.ledger_fields.proofs.moment.has_form.Given as goal

abbrev pub invariant-loop-at : goal.invariant-loop-at
invariant-loop-at l =
    (l.is_so && has_form (drop l.at moment_form) (drop l.at l.text)) ≡ has_form moment_form l.text
