use Rattle.std.proofs.Common.{◌≡◌, List, None, Some, refl, ℕ}
use Rattle.std.specs.Prelude.{Option}
use Rattle.tap_rows.proofs.agency.reading.parsed.Goals as goal

is_none : (found : Option (List ℕ)) → ((one : List ℕ) → ¬ (found ≡ Some one)) → None ≡ found
is_none None never = refl
is_none (Some one) never = absurd (never one refl)

pub returns-in-Err : goal.returns-in-Err
returns-in-Err c = is_none _ (λ one is. absurd (cc (c.in-Err.ensures.ok.1 (one, is))))
