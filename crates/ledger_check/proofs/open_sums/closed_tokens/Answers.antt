use Rattle.std.proofs.Common.{◌∙◌, arith}
use Rattle.ledger_check.proofs.OpenSums.{closed, none_closed, run_few}
use Rattle.ledger_check.proofs.open_sums.closed_tokens.Goals as goal

pub returns-in_default : goal.returns-in_default
returns-in_default c = λ entries is.
    let split = rw c.in_default.is at is in
    none_closed entries _ split.0 split.1

pub push-requires : goal.push-requires
push-requires c =
    let (entries, is, few) = c.requires in
    let split = rw c.in-Some.is at is in
    omega (arith, run_few entries _ c.in-Some.last split.0, few)

pub returns : goal.returns
returns c = λ entries is.
    let split = rw c.in-Some.is at is in
    c.in_ok-push.ensures ∙ closed entries _ c.in-Some.last split.0 split.1
