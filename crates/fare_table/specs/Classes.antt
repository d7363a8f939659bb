-- The keys `classes` and `default_class`: what rider classes pay, and what their rides give.
use Rattle.fare_table.specs.{Caps.cap_named, Members.hold_numbers, Members.hold_tables}
use Rattle.fare_table.specs.Members.{number_at, number_in, number_or, of_kind, table_at, text_at}
use Rattle.fare_table.specs.{Modes.mode_named, OrFault.OrFault, OrFault.◌>>=◌}
use Rattle.fare_table.specs.declared.fault.TableFault.TheVariants.{Kind, Range, Rider}
use Rattle.std.specs.{Option.ok_or, Prelude.ℕ, Prelude.suc, Prelude.◌*◌}
use Rattle.std.specs.Prelude.{Bool, true, false, List, [], ◌∷◌, ◌++◌, Option, Some, ◌&&◌, None, Ok}
use Rattle.std.specs.Prelude.{Err, codes, if◌then◌else◌, nat_le, option_map, replicate, slice_set}
use Rattle.tariffs.specs.{Names.same_name, declared.class.Class.Class}
use Rattle.tariffs.specs.declared.{terms.Terms.Terms, transfer_terms.TransferTerms.TransferTerms}
use Rattle.toml.specs.Data.{Data, Members, no_members, member, get_member, as_str, as_table}
use Rattle.fare_table.specs.declared.fault.Key.TheVariants as the_key

-- the ceiling of a class that names none: the price of all rides, and the highest one if no limit
-- of rides is named, or they cost nothing
abbrev pub own_ceiling : ℕ → ℕ → ℕ
own_ceiling rides fare =
    if nat_le rides 1_000 && nat_le 1 fare then rides * fare else 100_000_000

-- the terms of a class: its fare, its rides, as many as a window counts if it names no limit, and
-- its ceiling, within their bounds
unfoldable pub terms_of : Members → OrFault Terms
terms_of element = do
  fare ← number_at (codes "fare") the_key.Fare 0 100_000 element
  rides ← number_or 60_000 the_key.Rides 1 1_000 (get_member (codes "rides") element)
  ceiling ← number_or (own_ceiling rides fare) the_key.Ceiling 1 100_000_000
      (get_member (codes "ceiling") element)
  Ok (record {
    fare = fare;
    rides = rides;
    ceiling = ceiling;
  })

-- the fares by the places of the modes, with those that the members name
abbrev pub fares_from : List (List ℕ) → List ℕ → Members → OrFault (List ℕ)
fares_from modes fares no_members = Ok fares
fares_from modes fares (member name value more) = do
  position ← mode_named modes name
  cents ← number_in the_key.Fares 0 100_000 value
  fares_from modes (slice_set fares position cents) more

-- the fares by the places of the modes: the class's own, if none is named
abbrev pub fares_of : List (List ℕ) → ℕ → Option Data → OrFault (List ℕ)
fares_of modes fare None = Ok (replicate 32 fare)
fares_of modes fare (Some value) = do
  named ← of_kind the_key.Fares (as_table value)
  numbers ← if hold_numbers named then Ok named else Err (Kind the_key.Fares)
  fares_from modes (replicate 32 fare) numbers

-- the ceilings by the places of the caps, with those that the members name
abbrev pub ceilings_from : List (List ℕ) → List ℕ → Members → OrFault (List ℕ)
ceilings_from caps ceilings no_members = Ok ceilings
ceilings_from caps ceilings (member name value more) = do
  position ← cap_named caps name
  cents ← number_in the_key.ClassCaps 1 100_000_000 value
  ceilings_from caps (slice_set ceilings position cents) more

-- the ceilings by the places of the caps: the highest, if none is named
abbrev pub ceilings_of : List (List ℕ) → Option Data → OrFault (List ℕ)
ceilings_of caps None = Ok (replicate 3 100_000_000)
ceilings_of caps (Some value) = do
  named ← of_kind the_key.ClassCaps (as_table value)
  numbers ← if hold_numbers named then Ok named else Err (Kind the_key.ClassCaps)
  ceilings_from caps (replicate 3 100_000_000) numbers

-- the text is the word `any`
abbrev pub is_any_text : Option (List ℕ) → Bool
is_any_text None = false
is_any_text (Some text) = same_name text (codes "any")

-- the value is the word `any`
abbrev pub is_any : Data → Bool
is_any value = is_any_text (as_str value)

-- how many transfers a ride gives: the number that is named, 255 at the word `any`, else one
abbrev pub taps_of : Option Data → OrFault ℕ
taps_of None = Ok 1
taps_of (Some value) =
    if is_any value then Ok 255 else number_in the_key.RideTransfers 0 9 value

-- what the rides of a class give: one transfer within two hours, if it does not say otherwise
unfoldable pub ride_transfers_of : Members → OrFault TransferTerms
ride_transfers_of element = do
  taps ← taps_of (get_member (codes "transfers") element)
  minutes ← number_or 120 the_key.TransferMinutes 1 1_440
      (get_member (codes "transfer_minutes") element)
  Ok (record { taps = taps; time = minutes * 60_000 })

-- a class: its terms, its fares by mode, its ceilings by cap, and what its rides give
unfoldable pub class_of : List (List ℕ) → List (List ℕ) → Members → OrFault Class
class_of modes caps element = do
  terms ← terms_of element
  fares ← fares_of modes terms.fare (get_member (codes "fares") element)
  ceilings ← ceilings_of caps (get_member (codes "caps") element)
  transfers ← ride_transfers_of element
  Ok (record {
    terms = terms;
    fares = fares;
    caps = ceilings;
    transfers = transfers;
  })

-- the class of a value that is a table
abbrev pub class_in : List (List ℕ) → List (List ℕ) → Data → OrFault Class
class_in modes caps value = do
  element ← of_kind the_key.Classes (as_table value)
  class_of modes caps element

-- the earlier classes and those of the members, class by class
abbrev pub classes_from : List (List ℕ) → List (List ℕ) → List Class → Members
    → OrFault (List Class)
classes_from modes caps earlier no_members = Ok earlier
classes_from modes caps earlier (member name value more) = do
  class ← class_in modes caps value
  classes_from modes caps (earlier ++ class ∷ []) more

-- how many there are
abbrev pub count_of : Members → ℕ
count_of no_members = 0
count_of (member name value more) = suc (count_of more)

-- there is no class
abbrev pub is_empty : Members → Bool
is_empty no_members = true
is_empty (member name value more) = false

-- the classes as a table of the text
unfoldable pub classes_of : Members → OrFault Members
classes_of tree = do
  classes ← table_at (codes "classes") the_key.Classes tree
  tables ← if hold_tables classes then Ok classes else Err (Kind the_key.Classes)
  if is_empty tables then Err (Range the_key.Classes) else Ok tables

-- the place of the class of this name, in the byte order of the names
abbrev pub position_of : List ℕ → Members → Option ℕ
position_of name no_members = None
position_of name (member key value more) =
    if same_name name key then Some 0 else option_map suc (position_of name more)

-- the place of the class of this name, which has to be there
abbrev pub class_named : Members → List ℕ → OrFault ℕ
class_named classes name = ok_or (position_of name classes) Rider

-- the place of the class that `default_class` names
unfoldable pub default_of : Members → Members → OrFault ℕ
default_of classes tree = do
  name ← text_at (codes "default_class") the_key.DefaultClass tree
  class_named classes name
