use Rattle.std.proofs.Common.{◌∙◌, ap}
use Rattle.world.proofs.Laws.{read_more}
use Rattle.world.proofs.files.note_read.Goals as goal

pub returns-clause-reading : goal.returns-clause-reading
returns-clause-reading c before e =
    ap (λ t. t.reading) c.read.ensures
    ∙ read_more c.args.trace.now c.args.bytes.now.items before c.args.end c.args.count c.requires e
