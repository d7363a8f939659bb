use Rattle.std.proofs.Common.{◌≡◌, ◌++◌, map, filter}
use Rattle.shard_book.specs.inside.Accounts.{is_used, pair_of, pairs_of}
use Rattle.histories.specs.Counts.{token_counts}
use Rattle.shard_book.proofs.accounts.Accounts.push_counts.Given as goal

abbrev pub invariant-loop-token : goal.invariant-loop-token
invariant-loop-token l =
    map token_counts l.list.items ++ map pair_of (filter is_used l.token-iterator)
    ≡ map token_counts l.initial.list.items ++ pairs_of l.self
