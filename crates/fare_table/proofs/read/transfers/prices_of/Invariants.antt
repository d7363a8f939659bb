use Rattle.std.proofs.Common.{◌≡◌, ◌++◌, All, drop}
use Rattle.tariffs.specs.Prices.{IsBoundedPrice}
use Rattle.fare_table.specs.Transfers.{prices_of}
use Rattle.fare_table.proofs.read.transfers.prices_of.Given as goal

abbrev pub invariant-loop-one : goal.invariant-loop-one
invariant-loop-one l = record {
  -- the prices of the whole are those so far and those of what is left
  same : prices_of l.found ≡ l.prices.items ++ prices_of (drop l.one-index l.found);
  bounds : All IsBoundedPrice l.prices.items;
}
