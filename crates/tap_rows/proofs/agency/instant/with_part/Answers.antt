use Rattle.std.proofs.Common.{arith}
use Rattle.tap_rows.proofs.agency.instant.with_part.Goals as goal

pub returns-in-Err : goal.returns-in-Err
returns-in-Err c = absurd (cc (c.in-Err.ensures.variant.1 (omega (arith, c.requires))))
