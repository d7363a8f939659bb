use Rattle.std.proofs.Common.{refl}
use Rattle.omny_cli.proofs.system.run_system.Goals as goal

pub returns : goal.returns
returns g c = c.run_beside_line.ensures _ _ refl refl
