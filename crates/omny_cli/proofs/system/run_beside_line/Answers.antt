use Rattle.std.proofs.Common.{◌≡◌, rules}
use Rattle.omny_cli.proofs.system.run_beside_line.Goals as goal

-- what the closure left in what it borrowed is what it left behind
pub returns : goal.returns
returns g c =
    let new = c.join_mut-status.new.g in
    let world : new.3.now ≡ c.world-1.given.0 = search rules in
    let out : new.4.now ≡ c.out-1.given.0 = search rules in
    rw (← world, ← out) c.join_mut-status.ensures.1.met.1
