use Rattle.std.proofs.{Common.◌≡◌, Common.◌++◌, Math.ListN.replicate}
use Rattle.ledger_check.proofs.full_balance.push_times.Given as goal

-- as many as there were rounds were appended
abbrev pub invariant-loop-copy : goal.invariant-loop-copy
invariant-loop-copy l = l.taps.items ≡ l.fn.taps.items ++ replicate l._copy l.tap
