-- What a tally represents.
use Rattle.histories.specs.{Positions.all_of, Sums.Sums, declared.sums.tally.Tally.Tally}
use Rattle.std.specs.Prelude.{ℕ, List, slice_index}

-- the sums that five counts and the cents are
abbrev pub sums_of_positions : List ℕ → ℕ → Sums
sums_of_positions counts cents = record {
  taps = all_of counts;
  paid = slice_index counts 0;
  transfers = slice_index counts 1;
  capped = slice_index counts 2;
  stale = slice_index counts 3;
  unknown = slice_index counts 4;
  cents = cents;
}

-- the sums that a tally represents
abbrev pub sums_of_tally : Tally → Sums
sums_of_tally tally = sums_of_positions tally.counts tally.cents
