use Rattle.std.proofs.Common.{ap, ◌+◌, ◌*◌, ◌∙◌}
use Rattle.shard_book.specs.inside.Packed.{bits_answer, bits_cents}
use Rattle.shard_book.proofs.PackedLemmas.{moment-back, answer-in_bits, cents-in_bits}
use Rattle.shard_book.proofs.packed.bits_of.Goals as goal

pub returns-clause-moment : goal.returns-clause-moment
returns-clause-moment c =
    moment-back c.from.result c.position_of-number.result c.args.moment c.requires.early

pub returns-clause-answer : goal.returns-clause-answer
returns-clause-answer c =
    ap (λ number. bits_answer ((c.from.result * 8 + number) * 4398046511104 + c.args.moment))
    c.position_of-number.ensures.position
    ∙ answer-in_bits c.from.result c.args.moment c.args.reply.answer c.requires.early

pub returns-clause-cents : goal.returns-clause-cents
returns-clause-cents c =
    ap (λ number. bits_cents ((c.from.result * 8 + number) * 4398046511104 + c.args.moment))
    c.position_of-number.ensures.position
    ∙ cents-in_bits c.from.result c.args.moment c.args.reply.answer c.requires.early
    ∙ c.from.ensures
