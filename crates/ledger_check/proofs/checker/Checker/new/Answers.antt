use Rattle.std.proofs.Common.{[], refl}
use Rattle.ledger_check.proofs.checker.Checker.new.Goals as goal

pub returns : goal.returns
returns c = λ fares balance valid is.
    record { taken = []; fed = c.new.ensures fares; none = refl; subtracted = is }
