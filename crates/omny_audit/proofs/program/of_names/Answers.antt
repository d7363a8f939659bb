use Rattle.std.proofs.Common.{refl}
use Rattle.omny_audit.proofs.program.of_names.Goals as goal

pub returns-in-Some : goal.returns-in-Some
returns-in-Some c = λ texts at run. ((c.args.wrong, at, c.in-Name.is), refl)

pub returns-in-None : goal.returns-in-None
returns-in-None c = λ texts at run. ((c.args.wrong, at, c.in-Name.is), refl)
