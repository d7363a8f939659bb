-- The values at the keys of a TOML table.
use Rattle.fare_table.specs.{OrFault.OrFault, OrFault.◌>>=◌, declared.fault.Key.Key}
use Rattle.fare_table.specs.declared.fault.TableFault.TheVariants.{Missing, Kind, Range}
use Rattle.std.specs.Option.{is_some, ok_or}
use Rattle.std.specs.Prelude.{ℕ, ℤ, pos, ◌&&◌, ◌∷◌, [], Bool, true, List, Option, None, Some, Ok}
use Rattle.std.specs.Prelude.{Err, int_le, unsigned_abs, if◌then◌else◌}
use Rattle.toml.specs.Data.{Data, Items, no_items, item, Members, no_members, member, get_member}
use Rattle.toml.specs.Data.{as_str, as_integer, as_array, as_table}

-- the value at a key that has to be there
abbrev pub needed : List ℕ → Key → Members → OrFault Data
needed name key tree = ok_or (get_member name tree) (Missing key)

-- a part of a value that is to be of one kind
abbrev pub of_kind : {A : Type 0} → Key → Option A → OrFault A
of_kind key part = ok_or part (Kind key)

-- the number, if it lies from `low` to `high`
abbrev pub within : Key → ℕ → ℕ → ℤ → OrFault ℕ
within key low high number =
    if int_le (pos low) number && int_le number (pos high) then Ok (unsigned_abs number)
    else Err (Range key)

-- the string at a key that has to be there
abbrev pub text_at : List ℕ → Key → Members → OrFault (List ℕ)
text_at name key tree = do
  value ← needed name key tree
  of_kind key (as_str value)

-- the array at a key that has to be there
abbrev pub array_at : List ℕ → Key → Members → OrFault Items
array_at name key tree = do
  value ← needed name key tree
  of_kind key (as_array value)

-- the table at a key that has to be there
abbrev pub table_at : List ℕ → Key → Members → OrFault Members
table_at name key tree = do
  value ← needed name key tree
  of_kind key (as_table value)

-- the value as a number from `low` to `high`
abbrev pub number_in : Key → ℕ → ℕ → Data → OrFault ℕ
number_in key low high value = do
  number ← of_kind key (as_integer value)
  within key low high number

-- the number from `low` to `high` at a key that has to be there
abbrev pub number_at : List ℕ → Key → ℕ → ℕ → Members → OrFault ℕ
number_at name key low high tree = do
  value ← needed name key tree
  number_in key low high value

-- each item is a table
abbrev pub are_tables : Items → Bool
are_tables no_items = true
are_tables (item value more) = is_some (as_table value) && are_tables more

-- each item is a string
abbrev pub are_texts : Items → Bool
are_texts no_items = true
are_texts (item value more) = is_some (as_str value) && are_texts more

-- each value is a table
abbrev pub hold_tables : Members → Bool
hold_tables no_members = true
hold_tables (member key value more) = is_some (as_table value) && hold_tables more

-- each value is a string
abbrev pub hold_strings : Members → Bool
hold_strings no_members = true
hold_strings (member key value more) = is_some (as_str value) && hold_strings more

-- each value is a number
abbrev pub hold_numbers : Members → Bool
hold_numbers no_members = true
hold_numbers (member key value more) = is_some (as_integer value) && hold_numbers more

-- the value as a number from `low` to `high`, else the default if there is none
abbrev pub number_or : ℕ → Key → ℕ → ℕ → Option Data → OrFault ℕ
number_or default key low high None = Ok default
number_or default key low high (Some value) = number_in key low high value

-- the keys by their places
abbrev pub names_in : Members → List (List ℕ)
names_in no_members = []
names_in (member key value more) = key ∷ names_in more
