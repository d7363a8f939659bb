use Rattle.std.proofs.Common.{refl}
use Rattle.ledger_check.proofs.FullCheckLemmas.{kept_piece}
use Rattle.ledger_check.proofs.lines_fed.LinesFed.keep.Goals as goal

pub returns : goal.returns
returns c = λ fares text taken is.
    kept_piece fares c.args.self.now _ text c.args.rest.now taken is c.requires refl
    (c.in_ok-keep.ensures is.started is.kept)
