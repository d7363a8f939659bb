use Rattle.std.proofs.Common.{[], refl}
use Rattle.ledger_check.proofs.full_check.FullCheck.new.Goals as goal

pub returns : goal.returns
returns c = λ fares subtracts full valid subtracted.
    record { taken = []; fed = c.new.ensures fares; reported = refl; subtracted = subtracted }
