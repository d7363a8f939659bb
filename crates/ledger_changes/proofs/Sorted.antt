-- Rows in the order of their keys.
use Rattle.std.proofs.Common.{◌≡◌, List, ◌∷◌, false}
use Rattle.std.specs.Ordering.{is_lt}
use Rattle.std.proofs.lemmas.List.Sorted.{ranks_by}
use Rattle.tap_views.proofs.Lists.{each-weaker}
use Rattle.ledger_fields.specs.Rows.{Key, Row}
use Rattle.ledger_changes.specs.Rows.{AreInOrder, key_cmp}
use Rattle.ledger_changes.proofs.Keys.{key_cmp_total}

abbrev pub AreNondecreasing : List Row → Type 0
AreNondecreasing rows = AreInOrder (λ row. row.key) rows

-- one row more in front
pub ascend_more : (row next : Row) (rows : List Row) → is_lt (key_cmp next.key row.key) ≡ false
    → AreNondecreasing (next ∷ rows) → AreNondecreasing (row ∷ next ∷ rows)
ascend_more row next rows first up =
    let order = ranks_by key_cmp_total (λ (k : Key). k) in (
      (
        first,
        each-weaker _ _ rows
            (λ later less. order.chain later.key next.key row.key less first) up.0,
      ),
      up,
    )
