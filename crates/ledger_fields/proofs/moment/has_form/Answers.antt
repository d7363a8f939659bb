use Rattle.std.proofs.Common.{◌≡◌, ◌+◌, ◌&&◌, arith, drop, refl, rules}
use Rattle.std.proofs.lemmas.List.{drop_more}
use Rattle.std.specs.Prelude.{slice_index}
use Rattle.ledger_fields.specs.Moments.{has_form, is_of_form, moment_form}
use Rattle.ledger_fields.proofs.moment.has_form.Goals as goal

pub loop-at-preserved : goal.loop-at-preserved
loop-at-preserved c =
    let at = c.loop-at.at in
    let text = c.args.text.now in
    let step : has_form (drop at moment_form) (drop at text)
    ≡ (is_of_form (slice_index moment_form at) (slice_index text at) && has_form (drop (at + 1) moment_form) (drop (at + 1) text)) =
    rw (drop_more moment_form at 0 (omega (arith, c.loop-at-test.true)), drop_more text at 0 (omega (arith, c.loop-at-test.true, c.requires))) refl in
    search (rules, step)
