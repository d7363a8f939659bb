use Rattle.std.proofs.Common.{List, [], ◌++◌, append-nil, ap, arith, subst, sym, take, ◌∙◌}
use Rattle.sorted_taps.proofs.{Joining.one_sorted, Known.known_all, Known.known_map}
use Rattle.sorted_taps.proofs.Limits.{none_up_to, run_up_to}
use Rattle.sorted_taps.specs.Readers.{IsPassed, ahead}
use Rattle.sorted_taps.specs.inside.Limits.{IsPassedUpTo, IsRunUpTo}
use Rattle.std.specs.List.Sorted.{IsSorted}
use Rattle.tap_parts.specs.{Canonical.tap_cmp, Keys.tap_of_key}
use Rattle.tap_views.specs.declared.encoder.TapFields.{TapFields}
use Rattle.sorted_taps.proofs.step.take_run.Goals as goal

pub returns-then-number-eq0 : goal.returns-then-number-eq0
returns-then-number-eq0 g c =
    let limit = tap_of_key c.args.limit in
    let number = c.run_length-number.result in
    record {
      run = [];
      items = sym (append-nil c.args.taps.now.items);
      sorted = one_sorted [];
      passed = known_all _ (g.F.Placed.bytes c.args.file.now)
          (λ all. none_up_to all limit c.args.reader.now number c.if-number-eq0.true
          (subst (λ l. IsRunUpTo limit l number) c.ahead-waiting.ensures
          c.run_length-number.ensures));
    }

pub pass-requires-clause-order : goal.pass-requires-clause-order
pass-requires-clause-order g c =
    subst (λ l. IsSorted tap_cmp (take c.run_length-number.result l)) c.ahead-waiting.ensures
    c.run_length-number.ensures.run.sorted

pub returns : goal.returns
returns g c =
    let limit = tap_of_key c.args.limit in
    let old = c.args.reader.now in
    let new = c.pass.new.self in
    let number = c.run_length-number.result in
    let not = c.if-number-eq0.false in
    record {
      run = take number (ahead old);
      items = c.in_ok-extend_from_slice.ensures.items
          ∙ ap (λ (l : List TapFields). c.args.taps.now.items ++ take number l)
          c.ahead-waiting.ensures;
      sorted = subst (λ l. IsSorted tap_cmp (take number l)) c.ahead-waiting.ensures
          c.run_length-number.ensures.run.sorted;
      passed = known_map (λ all. IsPassed all old (take number (ahead old)) new)
          (λ all. IsPassedUpTo all limit old (take number (ahead old)) new)
          (g.F.Placed.bytes c.args.file.now)
          (λ all passed. run_up_to all limit old new number
          (subst (λ l. IsRunUpTo limit l number) c.ahead-waiting.ensures
          c.run_length-number.ensures) (omega (arith, not)) passed c.in_ok-pass.ensures.next)
          c.in_ok-pass.ensures.kept;
    }
