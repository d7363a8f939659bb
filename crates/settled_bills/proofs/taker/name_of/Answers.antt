use Rattle.std.proofs.Common.{refl, sym}
use Rattle.settlement.proofs.TokenRuns.{named_token}
use Rattle.settled_bills.proofs.Takings.{has_name}
use Rattle.settled_bills.proofs.taker.name_of.Goals as goal

pub returns-clause-token : goal.returns-clause-token
returns-clause-token c =
    sym (named_token c.args.tap.now _ _ refl c.of.ensures.bytes c.of.ensures.fits)

pub returns-clause-named : goal.returns-clause-named
returns-clause-named c =
    has_name c.args.tap.now c.of.result c.of.ensures.bytes c.of.ensures.fits
