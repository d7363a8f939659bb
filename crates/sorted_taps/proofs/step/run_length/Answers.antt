use Rattle.std.proofs.Common.{subst, sym, ◌∙◌}
use Rattle.sorted_taps.proofs.Joining.{ranked}
use Rattle.sorted_taps.proofs.Limits.{none_before_limit, run_first, run_known}
use Rattle.sorted_taps.specs.{Merged.IsNotBefore, inside.Limits.no_tap}
use Rattle.std.proofs.lemmas.Option.{get_or_from_slice_get, slice_get_within}
use Rattle.tap_parts.specs.Keys.{tap_of_key}
use Rattle.sorted_taps.proofs.step.run_length.Goals as goal

pub returns-then-is_before : goal.returns-then-is_before
returns-then-is_before c =
    let limit = tap_of_key c.args.limit in
    let first = tap_of_key c.of.result in
    none_before_limit limit c.args.ahead.now (λ d some.
    subst (IsNotBefore limit)
    (c.of.ensures ∙ sym (get_or_from_slice_get c.args.ahead.now 0 c.in-Some.first.now d
    (sym c.in-Some.ensures.value)))
    (ranked.one_way limit first (sym c.is_before.ensures ∙ c.if-is_before.true)))

pub token_run-number-requires : goal.token_run-number-requires
token_run-number-requires c =
    slice_get_within c.args.ahead.now 0 c.in-Some.first.now (sym c.in-Some.ensures.value)

pub run_from-requires-clause-run : goal.run_from-requires-clause-run
run_from-requires-clause-run c =
    let limit = tap_of_key c.args.limit in
    run_first limit c.args.ahead.now
    (slice_get_within c.args.ahead.now 0 c.in-Some.first.now (sym c.in-Some.ensures.value))
    (subst (λ t. IsNotBefore t limit)
    (c.of.ensures ∙ sym (get_or_from_slice_get c.args.ahead.now 0 c.in-Some.first.now no_tap
    (sym c.in-Some.ensures.value))) (sym c.is_before.ensures ∙ c.if-is_before.false))

pub run_from-requires-2-clause-run : goal.run_from-requires-2-clause-run
run_from-requires-2-clause-run c =
    let limit = tap_of_key c.args.limit in
    let number = c.token_run-number in
    run_known limit c.args.ahead.now number.result number.ensures.some number.ensures.within
    number.ensures.sorted
    (subst (λ t. IsNotBefore t limit) c.of-2.ensures
    (sym c.is_before-2.ensures ∙ c.if-is_before-2.false))
