use Rattle.std.proofs.Common.{sym, ◌∙◌}
use Rattle.shard_book.proofs.PackedLemmas.{entry-at, answer-same}
use Rattle.shard_book.proofs.packed.PackedEntry.entry.Goals as goal

pub returns : goal.returns
returns c = λ tokens at.
    answer-same c.args.self.now c.args.token _ c.answer_of.ensures
    ∙ sym (entry-at tokens c.args.self.now c.args.token at)
