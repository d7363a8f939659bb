-- Sums that were added up: what private functions alone cite.
use Rattle.histories.specs.{Sums.Sums, Sums.add_sums, TalliesByKey.kept_as, TalliesByKey.kept_sums}
use Rattle.histories.specs.declared.sums.tally.Tally.{Tally}
use Rattle.std.specs.{Map.lookup, Prelude.is_some}
use Rattle.std.specs.Prelude.{◌≡◌, ◌||◌, Bool, List}

-- all have the keys of both, and for each key the sums of both
pub record AreAdded {K V : Type 0} (eq : K → K → Bool) (summed : V → Sums)
    (first : List (K × Tally)) (more : List (K × V)) (all : List (K × Tally)) : Type 0 where
  pub sums : (key : K) → kept_sums (lookup (eq key) all)
      ≡ add_sums (kept_sums (lookup (eq key) first)) (kept_as summed (lookup (eq key) more))
  pub keys : (key : K) → is_some (lookup (eq key) all)
      ≡ (is_some (lookup (eq key) first) || is_some (lookup (eq key) more))
