use Rattle.std.proofs.Common.{rules}
use Rattle.histories.specs.{Counts.token_counts, declared.sums.counts.TokenCounts.TokenCounts}
use Rattle.shard_book.proofs.SummedLemmas.{counts-sorted}
use Rattle.std.proofs.lemmas.{Fn.always_returns_same, List.Sorted.IsPermutation-map}
use Rattle.shard_book.proofs.sums.by_token.sort.Goals as goal

pub returns-clause-permutation : goal.returns-clause-permutation
returns-clause-permutation c =
    IsPermutation-map token_counts _ _ c.sort_unstable_by_key.ensures.permutation

pub returns-clause-sorted : goal.returns-clause-sorted
returns-clause-sorted c =
    counts-sorted _
    (c.sort_unstable_by_key.ensures.sorted (λ (counts : TokenCounts). counts.token)
    (always_returns_same _ _ _ (λ a r q k. search rules)))
