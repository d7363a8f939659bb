-- The text of corrections: CSV, a line for each.
use Rattle.ledger_changes.specs.Changes.{Pair}
use Rattle.ledger_fields.specs.Rows.{Charge}
use Rattle.std.specs.Fmt.{decimal}
use Rattle.std.specs.Prelude.{ℕ, ◌-◌, Bool, true, false, List, ◌++◌, codes, filter, flat_map}
use Rattle.std.specs.Prelude.{length, if◌then◌else◌, nat_le, Option, None, Some}

-- the header line
abbrev pub corrections_head : List ℕ
corrections_head =
    codes
    "token,moment,validator,change,answer_before,cents_before,reason_before,answer_after,cents_after,reason_after,cents_change\n"

-- what was done to the line
abbrev pub change_word : Option Charge → Option Charge → List ℕ
change_word None after = codes "added"
change_word (Some before) None = codes "removed"
change_word (Some before) (Some after) = codes "changed"

-- the answer, the cents and the reason, each after a comma; three empty fields if there is no line
abbrev pub charge_fields : Option Charge → List ℕ
charge_fields None = codes ",,,"
charge_fields (Some charge) =
    codes "," ++
    (charge.answer ++ (codes "," ++ (decimal charge.cents ++ (codes "," ++ charge.reason))))

-- the cents of a line, and 0 if there is no line
abbrev pub cents_of : Option Charge → ℕ
cents_of None = 0
cents_of (Some charge) = charge.cents

-- `150`, `-150`, `0`
abbrev pub difference : ℕ → ℕ → List ℕ
difference before after =
    if nat_le before after then decimal (after - before) else codes "-" ++ decimal (before - after)

--
-- `000000000000000000000000000000a1,2026-03-02T13:40:00.000Z,201,changed,paid,290,full,transfer,0,transfer,-290`
unfoldable pub correction_line : Pair → List ℕ
correction_line pair =
    pair.key.token ++ (codes "," ++ (pair.key.moment ++ (codes "," ++ (decimal pair.key.validator
    ++ (codes "," ++ (change_word pair.before pair.after
    ++ (charge_fields pair.before ++ (charge_fields pair.after
    ++ (codes "," ++
    (difference (cents_of pair.before) (cents_of pair.after) ++ codes "\n"))))))))))

-- a line for each correction
abbrev pub corrections_lines : List Pair → List ℕ
corrections_lines changes = flat_map correction_line changes

-- the old bill has the line, and the new one has none beside it
abbrev pub is_only_before : Option Charge → Option Charge → Bool
is_only_before None after = false
is_only_before (Some before) None = true
is_only_before (Some before) (Some after) = false

abbrev pub is_removed : Pair → Bool
is_removed pair = is_only_before pair.before pair.after

-- how many lines of the old bill are missing in the new one
abbrev pub removed_in : List Pair → ℕ
removed_in changes = length (filter is_removed changes)
