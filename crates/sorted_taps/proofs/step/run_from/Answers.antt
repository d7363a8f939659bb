use Rattle.std.proofs.Common.{◌≡◌, arith, length, subst, sym, ◌∙◌}
use Rattle.sorted_taps.proofs.{Joining.ranked, Limits.run_more}
use Rattle.sorted_taps.specs.{Merged.IsNotBefore, inside.Limits.IsRunIn, inside.Limits.no_tap}
use Rattle.std.proofs.lemmas.List.{get_or_default}
use Rattle.tap_parts.specs.Keys.{tap_of_key}
use Rattle.sorted_taps.proofs.step.run_from.Goals as goal

pub loop-position-preserved : goal.loop-position-preserved
loop-position-preserved c =
    let limit = tap_of_key c.args.limit in
    let position = c.loop-position.position in
    record {
      some = omega arith;
      run = run_more limit c.args.ahead.now position
          (omega (arith, c.loop-position-test.true, c.loop-position.auto.position-end))
          c.loop-position.invariant.run
          (subst (λ t. IsNotBefore t limit) c.of.ensures
          (sym c.is_before.ensures ∙ c.if-is_before.false))
          (λ _. sym c.is_before-in-loop-position.ensures ∙ c.if-is_before-2.false);
    }

pub returns-then-is_before : goal.returns-then-is_before
returns-then-is_before c =
    let limit = tap_of_key c.args.limit in
    let ahead = c.args.ahead.now in
    let position = c.loop-position.position in
    record {
      run = c.loop-position.invariant.run;
      stop = λ d within order. subst (IsNotBefore limit)
          (c.of.ensures ∙ sym (get_or_default ahead position d no_tap within))
          (ranked.one_way limit (tap_of_key c.of.result)
          (sym c.is_before.ensures ∙ c.if-is_before.true));
    }

pub returns : goal.returns
returns c =
    let limit = tap_of_key c.args.limit in
    let ahead = c.args.ahead.now in
    let within = c.loop-position.invariant.run.within in
    let whole : c.loop-position.position ≡ length ahead =
    omega (arith, within, c.loop-position-test.false) in
    record {
      run = subst (IsRunIn limit ahead) whole c.loop-position.invariant.run;
      stop = λ d more. absurd (omega (arith, more));
    }
