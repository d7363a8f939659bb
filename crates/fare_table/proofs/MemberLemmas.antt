-- What holds of each value in turn, as the specs of a table's members say it.
use Rattle.std.proofs.Common.{◌≡◌, ◌&&◌, List, [], ◌∷◌, String, Global, Bool, refl, ap}
use Rattle.fare_table.specs.Members.{are_tables, are_texts, hold_numbers, hold_strings, hold_tables}
use Rattle.fare_table.specs.Transfers.{are_pairs, is_pair}
use Rattle.std.specs.{List.list_all, Map.values_of, Option.is_some}
use Rattle.toml.specs.Data.{as_integer, as_str, as_table}
use Rattle.toml.specs.{View.items_view, View.members_view, View.view, declared.value.Value.Value}

-- the value is a table, a string, and a number
abbrev pub is_table : Value → Bool
is_table value = is_some (as_table (view value))

abbrev pub is_string : Value → Bool
is_string value = is_some (as_str (view value))

abbrev pub is_number : Value → Bool
is_number value = is_some (as_integer (view value))

pub each_item_is_table : (values : List Value)
    → list_all is_table values ≡ are_tables (items_view values)
each_item_is_table [] = refl
each_item_is_table (value ∷ more) = ap (λ rest. is_table value && rest) (each_item_is_table more)

pub each_item_is_string : (values : List Value)
    → list_all is_string values ≡ are_texts (items_view values)
each_item_is_string [] = refl
each_item_is_string (value ∷ more) = ap (λ rest. is_string value && rest) (each_item_is_string more)

-- the value is a pair of strings, or a table
abbrev pub is_pair_of : Value → Bool
is_pair_of value = is_pair (view value)

pub each_item_is_pair : (values : List Value)
    → list_all is_pair_of values ≡ are_pairs (items_view values)
each_item_is_pair [] = refl
each_item_is_pair (value ∷ more) = ap (λ rest. is_pair_of value && rest) (each_item_is_pair more)

pub each_is_table : (entries : List (String Global × Value))
    → list_all is_table (values_of entries) ≡ hold_tables (members_view entries)
each_is_table [] = refl
each_is_table (element ∷ more) = ap (λ rest. is_table element.1 && rest) (each_is_table more)

pub each_is_string : (entries : List (String Global × Value))
    → list_all is_string (values_of entries) ≡ hold_strings (members_view entries)
each_is_string [] = refl
each_is_string (element ∷ more) = ap (λ rest. is_string element.1 && rest) (each_is_string more)

pub each_is_number : (entries : List (String Global × Value))
    → list_all is_number (values_of entries) ≡ hold_numbers (members_view entries)
each_is_number [] = refl
each_is_number (element ∷ more) = ap (λ rest. is_number element.1 && rest) (each_is_number more)
