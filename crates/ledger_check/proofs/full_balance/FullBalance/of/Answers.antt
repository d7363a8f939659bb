use Rattle.std.proofs.Common.{ℕ, List, refl, ap}
use Rattle.ledger_check.proofs.FullyBalanced.{started}
use Rattle.std.specs.{BTreeMap.is_at, Map.lookup, Option.unwrap_or}
use Rattle.tap_views.specs.{TapOrder.tap_cmp, declared.encoder.TapFields.TapFields}
use Rattle.ledger_check.proofs.full_balance.FullBalance.of.Goals as goal

pub returns : goal.returns
returns c = λ valid is.
    started c.args.balance.left c.args.balance.surplus _ valid refl
    (λ key.
    ap (λ (es : List (TapFields × ℕ)). unwrap_or (lookup (is_at (tap_cmp key)) es) 0)
    c.new.ensures.empty)
    is
