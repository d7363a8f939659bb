use Rattle.std.proofs.Common.{◌≡◌, ◌∙◌, ◌+◌, ◌∷◌, [], Bool, ℕ, Option, Some, None, ap, arith}
use Rattle.std.proofs.Common.{length, length-append, sym, if◌then◌else◌}
use Rattle.std.specs.Option.{option_or}
use Rattle.tap_views.specs.declared.encoder.TapFields.{TapFields}
use Rattle.ledger_check.specs.Orders.{comes_before, early_line, last_of}
use Rattle.ledger_check.proofs.Orders.{early-push, last-push}
use Rattle.ledger_check.proofs.order.TapOrder.with.Goals as goal

pub returns : goal.returns
returns c = λ taps is.
    let tap = c.args.tap.now in
    let order = c.args.self in
    let number : c.in-Some.lines ≡ 2 + length taps = omega (arith, is.lines) in
    record {
      last = sym (last-push None taps tap);
      lines = omega (arith, is.lines, length-append taps (tap ∷ []));
      early = c.or-early.ensures
          ∙ ap (λ (n : Option ℕ). option_or order.early n) c.number_if.ensures
          ∙ ap (λ (b : Bool). option_or order.early (if b then Some c.in-Some.lines else None))
          c.comes_before-is_early.ensures
          ∙ ap (λ (b : Option TapFields).
          option_or order.early (if comes_before tap b then Some c.in-Some.lines else None)) is.last
          ∙ ap (λ (e : Option ℕ). option_or e
          (if comes_before tap (last_of None taps) then Some c.in-Some.lines else None)) is.early
          ∙ ap (λ (n : ℕ). option_or (early_line taps)
          (if comes_before tap (last_of None taps) then Some n else None)) number
          ∙ sym (early-push 2 None taps tap);
    }
