use Rattle.std.proofs.Common.{◌≡◌, ◌<◌, ℕ, Some}
use Rattle.std.specs.Prelude.{MatchOption}
use Rattle.csv.specs.Records.{field_at, fields_of}
use Rattle.tap_rows.proofs.agency.positions.position_of.Given as goal

abbrev pub invariant-loop-position : goal.invariant-loop-position
invariant-loop-position l =
    MatchOption l.found
    ((k : ℕ) → k < l.position → ¬ (field_at (fields_of l.fn.head) k ≡ Some l.fn.name))
    (λ at. (at < l.position) × (field_at (fields_of l.fn.head) at ≡ Some l.fn.name)
    × ((k : ℕ) → k < l.position → field_at (fields_of l.fn.head) k ≡ Some l.fn.name → k ≡ at))
