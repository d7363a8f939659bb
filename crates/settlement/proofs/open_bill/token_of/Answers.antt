use Rattle.std.proofs.Common.{refl, sym}
use Rattle.settlement.proofs.TokenRuns.{named_token}
use Rattle.settlement.proofs.open_bill.token_of.Goals as goal

pub returns : goal.returns
returns c = sym (named_token c.args.tap.now _ _ refl c.of.ensures.bytes c.of.ensures.fits)
