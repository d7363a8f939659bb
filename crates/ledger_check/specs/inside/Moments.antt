-- The numbers in a text as `2024-03-08T17:00:00.000Z`, whatever its other bytes are.
use Rattle.std.specs.Prelude.{ℕ, ◌+◌, ◌-◌, ◌*◌, ◌%◌, List, slice_index}

-- the number of the two digits at the place
abbrev pub two_at : List ℕ → ℕ → ℕ
two_at text at = (slice_index text at - 48) * 10 + (slice_index text (at + 1) - 48)

abbrev pub year_at : List ℕ → ℕ
year_at text = two_at text 0 * 100 + two_at text 2

-- the milliseconds after midnight
abbrev pub clock_at : List ℕ → ℕ
clock_at text =
    ((two_at text 11 * 60 + two_at text 14) * 60 + two_at text 17) * 1_000
    + (two_at text 20 * 10 + two_at text 21 % 10)
