-- The key `modes`: the names of the modes by their places.
use Rattle.fare_table.specs.Members.{array_at, of_kind}
use Rattle.fare_table.specs.{OrFault.OrFault, OrFault.◌>>=◌, declared.fault.Key.TheVariants.Modes}
use Rattle.fare_table.specs.declared.fault.TableFault.TheVariants.{Range, Mode}
use Rattle.std.specs.{Char.is_ascii_lowercase, List.list_all, List.list_any, Option.ok_or}
use Rattle.std.specs.Prelude.{ℕ, ◌&&◌, ◌++◌, ◌∷◌, [], Bool, true, not, List, Ok, Err, codes, length}
use Rattle.std.specs.Prelude.{nat_le, position, if◌then◌else◌}
use Rattle.tariffs.specs.Names.{same_name}
use Rattle.toml.specs.Data.{Items, no_items, item, Members, as_str}

-- the strings found and those of the items
abbrev pub strings_from : List (List ℕ) → Items → OrFault (List (List ℕ))
strings_from found no_items = Ok found
strings_from found (item value more) =
    of_kind Modes (as_str value) >>= (λ name. strings_from (found ++ name ∷ []) more)

-- 1 to 16 letters `a` to `z`
abbrev pub is_mode_name : List ℕ → Bool
is_mode_name name =
    nat_le 1 (length name) && nat_le (length name) 16 && list_all is_ascii_lowercase name

-- no name comes twice
abbrev pub are_distinct : List (List ℕ) → Bool
are_distinct [] = true
are_distinct (name ∷ more) = not (list_any (same_name name) more) && are_distinct more

-- 1 to 32 names of modes, none twice
abbrev pub are_mode_names : List (List ℕ) → Bool
are_mode_names names =
    nat_le 1 (length names) && nat_le (length names) 32 && list_all is_mode_name names
    && are_distinct names

-- the names of the modes that the text lists
unfoldable pub modes_of : Members → OrFault (List (List ℕ))
modes_of tree = do
  items ← array_at (codes "modes") Modes tree
  names ← strings_from [] items
  if are_mode_names names then Ok names else Err (Range Modes)

-- the place of the mode of this name
abbrev pub mode_named : List (List ℕ) → List ℕ → OrFault ℕ
mode_named modes name = ok_or (position (same_name name) modes) Mode
