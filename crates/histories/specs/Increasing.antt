-- The keys of a list, each once and increasing.
use Rattle.std.specs.{BTreeSet.insert_key, List.Sorted.IsStrictlySortedBy, Ordering.eq_by_cmp}
use Rattle.std.specs.Prelude.{◌≡◌, List, [], ◌∷◌}
use Rattle.std.specs.{Set.is_member, declared.cmp.Ordering.Ordering}

-- the keys of the list, each once, in their order
unfoldable pub increasing : {K : Type 0} → (K → K → Ordering) → List K → List K
increasing cmp [] = []
increasing cmp (key ∷ keys) = insert_key cmp (increasing cmp keys) key

-- each key is below the next, and they are the keys of the list
pub record IsIncreasing {K : Type 0} (cmp : K → K → Ordering) (keys risen : List K) : Type 0 where
  pub increases : IsStrictlySortedBy cmp risen
  pub same : (key : K) → is_member (eq_by_cmp cmp) risen key ≡ is_member (eq_by_cmp cmp) keys key
