use Rattle.std.proofs.Common.{◌≡◌, arith, length, subst, sym, take, ◌∙◌}
use Rattle.sorted_taps.proofs.{Joining.one_sorted, Limits.taken_more}
use Rattle.std.specs.List.Sorted.{IsSorted}
use Rattle.tap_parts.specs.Canonical.{tap_cmp}
use Rattle.sorted_taps.proofs.step.token_run.Goals as goal

pub loop-position-init : goal.loop-position-init
loop-position-init c = record {
  some = omega arith;
  within = omega (arith, c.requires);
  sorted = one_sorted c.args.ahead.now;
}

pub loop-position-preserved : goal.loop-position-preserved
loop-position-preserved c =
    let position = c.loop-position.position in
    let inside = c.loop-position-test.true in
    let end = c.loop-position.auto.position-end in
    record {
      some = omega arith;
      within = omega (arith, inside, end);
      sorted = taken_more c.args.ahead.now position (omega (arith, inside, end))
          c.loop-position.invariant.sorted (λ _. sym c.is_before.ensures ∙ c.if-is_before.false);
    }

pub returns-clause-sorted : goal.returns-clause-sorted
returns-clause-sorted c =
    let ahead = c.args.ahead.now in
    let within = c.loop-position.invariant.within in
    let whole : c.loop-position.position ≡ length ahead =
    omega (arith, within, c.loop-position-test.false) in
    subst (λ n. IsSorted tap_cmp (take n ahead)) whole c.loop-position.invariant.sorted
