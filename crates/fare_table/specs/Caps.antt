-- The key `caps`: how long the windows of caps beside `window` are, and which modes these count.
use Rattle.fare_table.specs.Members.{are_texts, hold_tables, names_in, of_kind, text_at}
use Rattle.fare_table.specs.{Modes.is_mode_name, Modes.mode_named, OrFault.OrFault, OrFault.◌>>=◌}
use Rattle.fare_table.specs.declared.fault.TableFault.TheVariants.{Kind, Range, Cap}
use Rattle.std.specs.{List.list_all, Option.ok_or, Prelude.ℕ, Prelude.◌&&◌}
use Rattle.std.specs.Prelude.{◌++◌, ◌∷◌, [], Bool, true, false, List, Option, Some, None, Ok, Err}
use Rattle.std.specs.Prelude.{codes, if◌then◌else◌, length, nat_le, position, replicate, slice_set}
use Rattle.tariffs.specs.{Names.same_name, WindowSpan.length_named}
use Rattle.tariffs.specs.declared.cap_terms.CapTerms.{CapTerms}
use Rattle.tariffs.specs.declared.window_span.WindowLength.{WindowLength}
use Rattle.toml.specs.Data.{Data, Items, no_items, item, Members, no_members, member, get_member}
use Rattle.toml.specs.Data.{as_array, as_str, as_table}
use Rattle.fare_table.specs.declared.fault.Key.TheVariants as the_key

-- the names of a text's caps, and the caps, by their places
pub record TextCaps : Type 0 where
  pub names : List (List ℕ)
  pub caps : List CapTerms

-- these names and caps
abbrev pub text_caps : List (List ℕ) → List CapTerms → TextCaps
text_caps names caps = record { names = names; caps = caps }

-- at most three names, each as that of a mode
abbrev pub are_cap_names : List (List ℕ) → Bool
are_cap_names names = nat_le (length names) 3 && list_all is_mode_name names

-- the length of the windows of a cap
abbrev pub cap_length : Members → OrFault WindowLength
cap_length element = do
  text ← text_at (codes "window") the_key.CapWindow element
  ok_or (length_named text) (Range the_key.CapWindow)

-- the modes that a cap counts, by their places, with those that the items name
abbrev pub counts_from : List (List ℕ) → List Bool → Items → OrFault (List Bool)
counts_from modes counts no_items = Ok counts
counts_from modes counts (item value more) = do
  name ← of_kind the_key.CapModes (as_str value)
  position ← mode_named modes name
  counts_from modes (slice_set counts position true) more

-- the modes that a cap counts: all, if none is named
abbrev pub counts_of : List (List ℕ) → Option Data → OrFault (List Bool)
counts_of modes None = Ok (replicate 32 true)
counts_of modes (Some value) = do
  named ← of_kind the_key.CapModes (as_array value)
  texts ← if are_texts named then Ok named else Err (Kind the_key.CapModes)
  counts_from modes (replicate 32 false) texts

-- a cap: how long its windows are, and the modes that it counts
unfoldable pub cap_of : List (List ℕ) → Members → OrFault CapTerms
cap_of modes element = do
  length ← cap_length element
  counts ← counts_of modes (get_member (codes "modes") element)
  Ok (record { length = length; counts = counts })

-- the cap of a value that is a table
abbrev pub cap_in : List (List ℕ) → Data → OrFault CapTerms
cap_in modes value = do
  element ← of_kind the_key.Caps (as_table value)
  cap_of modes element

-- the earlier caps and those of the members, cap by cap
abbrev pub caps_from : List (List ℕ) → List CapTerms → Members → OrFault (List CapTerms)
caps_from modes earlier no_members = Ok earlier
caps_from modes earlier (member name value more) = do
  cap ← cap_in modes value
  caps_from modes (earlier ++ cap ∷ []) more

-- the members of the value, if each is a table
abbrev pub cap_tables : Data → OrFault Members
cap_tables value = do
  named ← of_kind the_key.Caps (as_table value)
  if hold_tables named then Ok named else Err (Kind the_key.Caps)

-- the names of the caps
abbrev pub cap_names : Members → OrFault (List (List ℕ))
cap_names tables =
    if are_cap_names (names_in tables) then Ok (names_in tables) else Err (Range the_key.Caps)

-- the caps of a value: none, if there is none
abbrev pub caps_in : List (List ℕ) → Option Data → OrFault TextCaps
caps_in modes None = Ok (text_caps [] [])
caps_in modes (Some value) = do
  tables ← cap_tables value
  names ← cap_names tables
  caps ← caps_from modes [] tables
  Ok (text_caps names caps)

-- the caps of the text
unfoldable pub caps_of : List (List ℕ) → Members → OrFault TextCaps
caps_of modes tree = caps_in modes (get_member (codes "caps") tree)

-- the place of the cap of this name
abbrev pub cap_named : List (List ℕ) → List ℕ → OrFault ℕ
cap_named caps name = ok_or (position (same_name name) caps) Cap
