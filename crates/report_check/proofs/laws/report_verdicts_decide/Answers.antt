use Rattle.report_check.proofs.Decided.{decides}
use Rattle.report_check.proofs.laws.report_verdicts_decide.Goals as goal

pub returns : goal.returns
returns c = λ ends entries text verdict is. decides ends entries text verdict is
