-- Shown: what private functions alone cite.
use Rattle.histories.specs.{Counts.token_counts, Shown.token_sum, Sums.Sums}
use Rattle.histories.specs.declared.sums.token_sums.SumList.{SumList}
use Rattle.histories.specs.declared.sums.token_sums.SumList.TheVariants.{Counted, Added}
use Rattle.std.specs.Prelude.{List, map}
use Rattle.tap_views.specs.declared.token.Token.{Token}

-- the tokens of a list with their sums, kept small or as totals
abbrev pub sums_in : SumList → List (Token × Sums)
sums_in (Counted list) = map token_counts list.items
sums_in (Added list) = map token_sum list.items
