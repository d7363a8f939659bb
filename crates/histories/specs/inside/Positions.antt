-- Places: what private functions alone cite.
use Rattle.std.specs.Prelude.{ℕ, ◌*◌, ◌≤◌, List}
use Rattle.histories.specs.Positions.{all_of}

-- no tap costs 2^32 cents or more
abbrev pub HasFewCents : List ℕ → ℕ → Type 0
HasFewCents counts cents = cents ≤ all_of counts * 4294967295
