use Rattle.std.proofs.Common.{ap, map, List, ◌∙◌}
use Rattle.histories.specs.declared.sums.TokenSum.{TokenSum}
use Rattle.histories.proofs.ByKeyLemmas.{tokens-of-sums}
use Rattle.shard_book.proofs.book.ShardBook.tokens.Goals as goal

pub returns : goal.returns
returns c =
    c.in_ok-tokens.ensures
    ∙ ap (λ (list : List TokenSum). map (λ (sum : TokenSum). sum.token) list) c.deref.ensures.value
    ∙ tokens-of-sums c.args.self.now.entries c.in_ok-sums.sums.items c.in_ok-sums.ensures
