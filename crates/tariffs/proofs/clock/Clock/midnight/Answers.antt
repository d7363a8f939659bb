use Rattle.std.proofs.{Common.arith, lemmas.Int.ints}
use Rattle.tariffs.proofs.clock.Clock.midnight.Goals as goal

pub returns-else-millis-lt0-clause-moment : goal.returns-else-millis-lt0-clause-moment
returns-else-millis-lt0-clause-moment c =
    omega (arith, ints, c.midnight_millis-millis.ensures, c.if-millis-lt0.false)
