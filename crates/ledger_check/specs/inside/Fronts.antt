-- The first four columns of a line.
use Rattle.ledger_check.specs.{FullChecks.front_columns, declared.exact.Front.Front}
use Rattle.std.specs.Prelude.{◌≡◌, List, Some, ℕ}

-- these columns, whatever the second is
abbrev pub IsFrontOf : List ℕ → Front → Type 0
IsFrontOf line front = (number : List ℕ) × (front_columns line
    ≡ Some ((front.token.now, (number, (front.moment.now, front.validator.now))), front.rest.now))
