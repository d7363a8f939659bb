use Rattle.std.proofs.Common.{rules}
use Rattle.std.proofs.lemmas.Fn.{always_returns_same}
use Rattle.fare_service.proofs.Sorting.{key, sorted_by_token}
use Rattle.fare_service.proofs.entries.sort.Goals as goal

pub returns : goal.returns
returns c =
    let by_key = always_returns_same _ _ _ (λ a r q k. search rules) in
    sorted_by_token c.args.books.now _ _ c.in_ok-sort_by_key.ensures.permutation
    (c.in_ok-sort_by_key.ensures.sorted (key c.args.books.now) by_key)
    (c.in_ok-sort_by_key.ensures.stable (key c.args.books.now) by_key)
