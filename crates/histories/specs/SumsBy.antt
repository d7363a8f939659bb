-- Sums by a key of the entries.
use Rattle.histories.specs.{ByKey.with_key, Increasing.increasing, Sums.Sums, Sums.sums}
use Rattle.histories.specs.declared.entry.Entry.{Entry}
use Rattle.std.specs.{Prelude.Bool, Prelude.List, Prelude.map, declared.cmp.Ordering.Ordering}

-- the keys of the entries, increasing, each with the sums of its entries
unfoldable pub sums_by : {K : Type 0} → (K → K → Ordering) → (K → K → Bool) → (Entry → K)
    → List Entry → List (K × Sums)
sums_by cmp eq key_of entries =
    map (λ key. (key, sums (with_key eq key_of key entries))) (increasing cmp (map key_of entries))
