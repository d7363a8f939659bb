use Rattle.fare_service.proofs.OrderLemmas.{reordered}
use Rattle.fare_service.proofs.laws.positions.posting_order.Goals as goal

pub returns : goal.returns
returns c = λ shards batches some. reordered shards batches some
