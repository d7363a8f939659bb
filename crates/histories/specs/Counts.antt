-- What small counts represent.
use Rattle.histories.specs.{Sums.Sums, Tally.sums_of_positions}
use Rattle.histories.specs.declared.sums.counts.{Counts.Counts, TokenCounts.TokenCounts}
use Rattle.tap_views.specs.declared.token.Token.{Token}

-- the sums that the counts hold
abbrev pub sums_of_counts : Counts → Sums
sums_of_counts counts = sums_of_positions counts.counts counts.cents

-- a token with the sums that are kept of it
abbrev pub token_counts : TokenCounts → Token × Sums
token_counts kept = (kept.token, sums_of_counts kept.counts)
