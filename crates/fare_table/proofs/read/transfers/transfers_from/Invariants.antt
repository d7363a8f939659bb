use Rattle.std.proofs.Common.{◌≡◌, [], All, drop, map, string_bytes}
use Rattle.fare_table.specs.inside.TextTransfers.{IsBoundedTransfer}
use Rattle.fare_table.specs.Transfers.{named_pair, transfers_from}
use Rattle.fare_table.proofs.read.transfers.transfers_from.Given as goal

abbrev pub invariant-loop-pair : goal.invariant-loop-pair
invariant-loop-pair l = record {
  -- the transfers of the whole are those found and those of the pairs that are left
  same : transfers_from (map string_bytes l.modes) []
      (map (λ p. named_pair p.from.now p.to.now p.pays) l.pairs)
      ≡ transfers_from (map string_bytes l.modes) l.found.items
      (map (λ p. named_pair p.from.now p.to.now p.pays) (drop l.pair-index l.pairs));
  bounds : All IsBoundedTransfer l.found.items;
}
