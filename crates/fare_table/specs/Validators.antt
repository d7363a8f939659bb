-- The key `validators`: ranges of validators and their modes.
use Rattle.fare_table.specs.Members.{array_at, number_at, of_kind, text_at, are_tables}
use Rattle.fare_table.specs.{Modes.mode_named, OrFault.OrFault, OrFault.◌>>=◌}
use Rattle.fare_table.specs.declared.fault.TableFault.TheVariants.{Kind, Overlap}
use Rattle.std.specs.{BTreeMap.insert_entry, List.list_any, Ordering.nat_cmp}
use Rattle.std.specs.Prelude.{ℕ, ◌&&◌, Bool, List, [], Ok, Err, codes, nat_le, if◌then◌else◌}
use Rattle.tariffs.specs.declared.validators.RangeRest.{RangeRest}
use Rattle.toml.specs.Data.{Data, Items, no_items, item, Members, as_table}
use Rattle.fare_table.specs.declared.fault.Key.TheVariants as the_key

-- the two ranges have a validator in common
abbrev pub share_number : ℕ × RangeRest → ℕ × RangeRest → Bool
share_number range other = nat_le range.0 other.1.last && nat_le other.0 range.1.last

-- the ranges and one more, at its place in the order of first numbers
abbrev pub with_range : List (ℕ × RangeRest) → ℕ × RangeRest → OrFault (List (ℕ × RangeRest))
with_range earlier range =
    if list_any (share_number range) earlier then Err Overlap
    else Ok (insert_entry nat_cmp earlier range.0 range.1)

-- the range of an element: its first number, its last one and its mode
unfoldable pub range_of : List (List ℕ) → Members → OrFault (ℕ × RangeRest)
range_of modes element = do
  first ← number_at (codes "first") the_key.First 0 4_294_967_295 element
  last ← number_at (codes "last") the_key.Last first 4_294_967_295 element
  name ← text_at (codes "mode") the_key.ModeName element
  mode ← mode_named modes name
  Ok (first, record { last = last; mode = mode })

-- the range of a value that is a table
abbrev pub range_in : List (List ℕ) → Data → OrFault (ℕ × RangeRest)
range_in modes value = do
  element ← of_kind the_key.Validators (as_table value)
  range_of modes element

-- the earlier ranges and those of the items
abbrev pub ranges_from : List (List ℕ) → List (ℕ × RangeRest) → Items
    → OrFault (List (ℕ × RangeRest))
ranges_from modes earlier no_items = Ok earlier
ranges_from modes earlier (item value more) = do
  range ← range_in modes value
  ranges ← with_range earlier range
  ranges_from modes ranges more

-- the ranges that the text lists, in the order of their first numbers
unfoldable pub ranges_of : List (List ℕ) → Members → OrFault (List (ℕ × RangeRest))
ranges_of modes tree = do
  items ← array_at (codes "validators") the_key.Validators tree
  if are_tables items then ranges_from modes [] items else Err (Kind the_key.Validators)
