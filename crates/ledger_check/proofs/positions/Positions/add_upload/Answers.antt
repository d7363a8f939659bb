use Rattle.std.proofs.Common.{rules}
use Rattle.ledger_check.proofs.PositionLemmas.{add_unnamed}
use Rattle.ledger_check.proofs.positions.Positions.add_upload.Goals as goal

pub returns : goal.returns
returns c =
    let found = c.in_ok-placed.ensures in (
      found.0,
      found.1,
      λ uploads has. add_unnamed c.args.self.now _ c.in_ok-placed.placed found.0
          uploads found.2 (search rules) has,
    )
