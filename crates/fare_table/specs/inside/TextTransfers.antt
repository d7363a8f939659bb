-- Transfers that were read, before their fares are known.
use Rattle.std.specs.Prelude.{◌<◌, IfSome}
use Rattle.tariffs.specs.Prices.{IsBoundedPays}
use Rattle.fare_table.specs.declared.read.transfers.TextTransfer.{TextTransfer}

-- its modes are within the most that a table has, and its cents within their bound
pub record IsBoundedTransfer (one : TextTransfer) : Type 0 where
  pub from : one.from < 32
  pub to : one.to < 32
  pub pays : IfSome one.pays IsBoundedPays
