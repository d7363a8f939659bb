use Rattle.std.proofs.Common.{◌≡◌, [], All, IfSome, drop, map}
use Rattle.toml.specs.View.{items_view}
use Rattle.tariffs.specs.Prices.{IsBoundedPays}
use Rattle.fare_table.specs.Transfers.{named_pair, pairs_from}
use Rattle.fare_table.proofs.read.transfers.pairs_from.Given as goal

abbrev pub invariant-loop-value : goal.invariant-loop-value
invariant-loop-value l = record {
  -- the pairs of the whole are those found and those of what is left
  same : pairs_from [] (items_view l.array.items)
      ≡ pairs_from (map (λ p. named_pair p.from.now p.to.now p.pays) l.pairs.items)
      (items_view (drop l.value-index l.array.items));
  bounds : All (λ p. IfSome p.pays IsBoundedPays) l.pairs.items;
}
