-- The prices of transfers.
use Rattle.std.specs.List.{find}
use Rattle.std.specs.Prelude.{ℕ, ◌&&◌, ◌==◌, ◌≤◌, Bool, List, Option, option_map}
use Rattle.tariffs.specs.declared.price.Pays.{Pays, TheVariants.Difference, TheVariants.More}
use Rattle.tariffs.specs.declared.price.Price.{Price}

-- the price is that of a transfer from the one place to the other
abbrev pub is_between : ℕ → ℕ → Price → Bool
is_between from to price = (price.from == from) && (price.to == to)

-- what a transfer from the one place to the other pays, if it is not free
abbrev pub price_in : List Price → ℕ → ℕ → Option Pays
price_in prices from to = option_map (λ price. price.pays) (find (is_between from to) prices)

-- the cents are within their bound
abbrev pub IsBoundedPays : Pays → Type 0
IsBoundedPays (More cents) = cents ≤ 100_000
IsBoundedPays Difference = Unit {0}

-- the cents of the price are within their bound
abbrev pub IsBoundedPrice : Price → Type 0
IsBoundedPrice price = IsBoundedPays price.pays
