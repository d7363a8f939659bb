use Rattle.std.proofs.Common.{◌≡◌, Option, None, Some, sym}
use Rattle.std.specs.Prelude.{MatchOption}
use Rattle.ledger_check.proofs.columns.number_line.Goals as goal

same : {A : Type 0} (found said : Option A) → MatchOption found (said ≡ None) (λ v. said ≡ Some v)
    → found ≡ said
same None said is = sym is
same (Some v) said is = sym is

pub returns : goal.returns
returns c = same _ _ c.line_of.ensures
