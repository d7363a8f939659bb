-- The key `riders`: the classes of single riders by their tokens.
use Rattle.fare_table.specs.{Classes.class_named, Members.of_kind, Members.hold_strings}
use Rattle.fare_table.specs.OrFault.{OrFault, ◌>>=◌}
use Rattle.fare_table.specs.declared.fault.TableFault.TheVariants.{Kind, Rider}
use Rattle.hex.specs.Hex.{decode_sized}
use Rattle.std.specs.{BTreeMap.insert_entry, BTreeMap.is_at, Cmp.Lexicographic.slice_cmp}
use Rattle.std.specs.{Map.lookup, Option.is_some, Option.ok_or, Ordering.nat_cmp}
use Rattle.std.specs.Prelude.{ℕ, Bool, List, [], Option, Some, None, Ok, Err, codes, if◌then◌else◌}
use Rattle.std.specs.Result.{result_ok}
use Rattle.toml.specs.Data.{Data, Members, no_members, member, get_member, as_str, as_table}
use Rattle.fare_table.specs.declared.fault.Key.TheVariants as the_key

-- the token that 32 hexadecimal digits name, of either case
abbrev pub token_of_digits : List ℕ → OrFault (List ℕ)
token_of_digits digits = ok_or (result_ok (decode_sized digits 16)) Rider

-- the token is one of the riders'
abbrev pub is_rider : List (List ℕ × ℕ) → List ℕ → Bool
is_rider riders token = is_some (lookup (is_at (slice_cmp nat_cmp token)) riders)

-- the riders and one more, at its place in the order of tokens
abbrev pub with_rider : List (List ℕ × ℕ) → List ℕ → ℕ → OrFault (List (List ℕ × ℕ))
with_rider riders token class =
    if is_rider riders token then Err Rider
    else Ok (insert_entry (slice_cmp nat_cmp) riders token class)

-- the token of one key, and the place of its class
abbrev pub rider_of : Members → List ℕ → Data → OrFault (List ℕ × ℕ)
rider_of classes key value = do
  token ← token_of_digits key
  name ← of_kind the_key.Riders (as_str value)
  class ← class_named classes name
  Ok (token, class)

-- the earlier riders and those of the members
abbrev pub riders_from : Members → List (List ℕ × ℕ) → Members → OrFault (List (List ℕ × ℕ))
riders_from classes earlier no_members = Ok earlier
riders_from classes earlier (member key value more) = do
  rider ← rider_of classes key value
  riders ← with_rider earlier rider.0 rider.1
  riders_from classes riders more

-- the riders of a value, which is a table of strings; none if there is no value
abbrev pub riders_at : Members → Option Data → OrFault (List (List ℕ × ℕ))
riders_at classes None = Ok []
riders_at classes (Some value) = do
  riders ← of_kind the_key.Riders (as_table value)
  if hold_strings riders then riders_from classes [] riders else Err (Kind the_key.Riders)

-- the riders that the text names, in the order of their tokens
unfoldable pub riders_of : Members → Members → OrFault (List (List ℕ × ℕ))
riders_of classes tree = riders_at classes (get_member (codes "riders") tree)
