use Rattle.std.proofs.Common.{◌≡◌, All, length, ◌+◌}
use Rattle.fare_service.proofs.ClaimLemmas.{AreSharesSplit}
use Rattle.fare_service.specs.{Claims.HasAllClaims, ServiceView.shards_of}
use Rattle.fare_service.specs.Shares.{IsFresh, IsShareOf}
use Rattle.fare_service.proofs.service.Service.share_out.Given as goal

abbrev pub invariant-loop : goal.invariant-loop
invariant-loop g l = record {
  first : IsShareOf l.self l.first;
  each : All (IsShareOf l.self) l.shares.items;
  number : length l.shares.items + 1 ≡ l.counter;
  fresh : IsFresh l.fn.first → IsFresh l.first × All IsFresh l.shares.items;
  claims : HasAllClaims (shards_of l.self) l.fn.first
      → AreSharesSplit (shards_of l.self) l.first l.shares.items;
}
