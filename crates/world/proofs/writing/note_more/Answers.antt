use Rattle.world.proofs.Laws.{written_twice}
use Rattle.world.proofs.writing.note_more.Goals as goal

pub returns : goal.returns
returns c r e =
    rw (c.wrote.ensures, e) (written_twice r c.args.piece.now c.args.at c.args.count)
