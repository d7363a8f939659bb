use Rattle.std.proofs.Common.{◌∙◌}
use Rattle.shard_book.proofs.PackedLemmas.{entry-at, parts-same}
use Rattle.shard_book.proofs.packed.PackedEntry.of.Goals as goal

pub returns-clause-holds : goal.returns-clause-holds
returns-clause-holds c = λ tokens token at.
    entry-at tokens
    (record { position = c.args.position; validator = c.args.validator; bits = c.bits_of.result })
    token at
    ∙ parts-same token c.args.validator c.bits_of.result c.args.moment c.args.reply
    c.bits_of.ensures.moment c.bits_of.ensures.answer c.bits_of.ensures.cents
