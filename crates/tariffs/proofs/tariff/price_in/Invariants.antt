use Rattle.std.proofs.Common.{◌≡◌, drop}
use Rattle.tariffs.specs.Prices.{price_in}
use Rattle.tariffs.proofs.tariff.price_in.Given as goal

-- what is left decides
abbrev pub invariant-loop-price : goal.invariant-loop-price
invariant-loop-price l =
    price_in (drop l.price-index l.prices) l.from l.to ≡ price_in l.prices l.from l.to
