-- The key `transfers`: the pairs of modes between which a ride includes a transfer, and their prices.
use Rattle.fare_table.specs.Members.{array_at, needed, number_in, of_kind, text_at}
use Rattle.fare_table.specs.{Modes.mode_named, OrFault.OrFault, OrFault.◌>>=◌}
use Rattle.fare_table.specs.declared.fault.TableFault.TheVariants.{Kind, Range}
use Rattle.fare_table.specs.declared.read.transfers.TextTransfer.{TextTransfer}
use Rattle.std.specs.{List.cons_option, List.find, Option.option_and_then}
use Rattle.std.specs.Prelude.{ℕ, ◌≡◌, ◌==◌, ◌&&◌, ◌||◌, ◌++◌, ◌∷◌, [], Bool, true, false, not}
use Rattle.std.specs.Prelude.{Contains, List, Option, None, Some, Ok, Err, codes, option_map}
use Rattle.std.specs.Prelude.{if◌then◌else◌, is_some}
use Rattle.tariffs.specs.{Names.same_name, Transfers.with_pair}
use Rattle.tariffs.specs.declared.price.Pays.{Pays, TheVariants.Difference, TheVariants.More}
use Rattle.tariffs.specs.declared.price.Price.{Price}
use Rattle.toml.specs.Data.{Data, Items, no_items, item, Members, as_array, as_str, as_table}
use Rattle.fare_table.specs.declared.fault.Key.TheVariants as the_key

-- the two strings of an array of exactly two strings
abbrev pub two_strings : Items → Option (List ℕ × List ℕ)
two_strings no_items = None
two_strings (item from no_items) = None
two_strings (item from (item to no_items)) =
    option_and_then (λ a. option_map (λ b. (a, b)) (as_str to)) (as_str from)
two_strings (item from (item to (item third more))) = None

-- the two strings of a value that is an array of two strings
abbrev pub name_pair : Data → Option (List ℕ × List ℕ)
name_pair value = option_and_then two_strings (as_array value)

-- the value is a pair of strings, or a table
abbrev pub is_pair : Data → Bool
is_pair value = is_some (name_pair value) || is_some (as_table value)

-- each item is one
abbrev pub are_pairs : Items → Bool
are_pairs no_items = true
are_pairs (item value more) = is_pair value && are_pairs more

-- the text is the word `difference`
abbrev pub is_difference_text : Option (List ℕ) → Bool
is_difference_text None = false
is_difference_text (Some text) = same_name text (codes "difference")

-- the value is the word `difference`
abbrev pub is_difference : Data → Bool
is_difference value = is_difference_text (as_str value)

-- what a pair pays: the difference of fares, or so many cents
abbrev pub pays_of : Data → OrFault Pays
pays_of value =
    if is_difference value then Ok Difference
    else (number_in the_key.Pays 1 100_000 value >>= (λ cents. Ok (More cents)))

-- a pair that the text lists: the names of its modes, and what it pays if it is not free
abbrev pub NamedPair : Type 0
NamedPair = (List ℕ × List ℕ) × Option Pays

-- these names and this price
abbrev pub named_pair : List ℕ → List ℕ → Option Pays → NamedPair
named_pair from to pays = ((from, to), pays)

-- a pair of a table
unfoldable pub priced_pair : Members → OrFault NamedPair
priced_pair entry = do
  from ← text_at (codes "from") the_key.From entry
  to ← text_at (codes "to") the_key.To entry
  value ← needed (codes "pays") the_key.Pays entry
  pays ← pays_of value
  Ok (named_pair from to (Some pays))

-- a pair of two strings, which is free, else that of a table
abbrev pub pair_or : Data → Option (List ℕ × List ℕ) → OrFault NamedPair
pair_or value (Some names) = Ok (names, None)
pair_or value None = of_kind the_key.Transfers (as_table value) >>= priced_pair

-- the pair of a value
abbrev pub pair_in : Data → OrFault NamedPair
pair_in value = pair_or value (name_pair value)

-- the pairs found and those of the items
abbrev pub pairs_from : List NamedPair → Items → OrFault (List NamedPair)
pairs_from found no_items = Ok found
pairs_from found (item value more) =
    pair_in value >>= (λ pair. pairs_from (found ++ pair ∷ []) more)

-- the places of a pair of names
abbrev pub positions_of : List (List ℕ) → List ℕ × List ℕ → OrFault (ℕ × ℕ)
positions_of modes pair = do
  from ← mode_named modes pair.0
  to ← mode_named modes pair.1
  Ok (from, to)

-- both go between the same modes
abbrev pub same_modes : TextTransfer → TextTransfer → Bool
same_modes one other = (one.from == other.from) && (one.to == other.to)

-- both pay the same
abbrev pub same_pays : Option Pays → Option Pays → Bool
same_pays None None = true
same_pays None (Some other) = false
same_pays (Some pays) None = false
same_pays (Some Difference) (Some Difference) = true
same_pays (Some Difference) (Some (More other)) = false
same_pays (Some (More cents)) (Some Difference) = false
same_pays (Some (More cents)) (Some (More other)) = cents == other

-- the earlier one between the same modes has another price
abbrev pub is_other_price : TextTransfer → Option TextTransfer → Bool
is_other_price one None = false
is_other_price one (Some earlier) = not (same_pays earlier.pays one.pays)

-- whether no earlier one goes between the same modes; one that does must have the same price
abbrev pub is_new : List TextTransfer → TextTransfer → OrFault Bool
is_new found one =
    if is_other_price one (find (same_modes one) found) then Err (Range the_key.Transfers)
    else Ok (not (is_some (find (same_modes one) found)))

-- the transfers and one more, if it is new
abbrev pub with_transfer : List TextTransfer → TextTransfer → OrFault (List TextTransfer)
with_transfer found one =
    is_new found one >>= (λ new. Ok (if new then found ++ one ∷ [] else found))

-- the transfer between the modes of these places, which pays this
abbrev pub at_positions : ℕ × ℕ → Option Pays → TextTransfer
at_positions positions pays = record { from = positions.0; to = positions.1; pays = pays }

-- the transfers found and those of the pairs of names
abbrev pub transfers_from : List (List ℕ) → List TextTransfer → List NamedPair
    → OrFault (List TextTransfer)
transfers_from modes found [] = Ok found
transfers_from modes found (pair ∷ more) =
    positions_of modes pair.0 >>= (λ positions.
    with_transfer found (at_positions positions pair.1) >>= (λ next. transfers_from modes next more))

-- the pairs of names that the text lists, in its order
unfoldable pub named_pairs : Members → OrFault (List NamedPair)
named_pairs tree = do
  items ← array_at (codes "transfers") the_key.Transfers tree
  listed ← if are_pairs items then Ok items else Err (Kind the_key.Transfers)
  pairs_from [] listed

-- the pairs of places and those of the transfers
abbrev pub pairs_with : List (ℕ × ℕ) → List TextTransfer → List (ℕ × ℕ)
pairs_with pairs [] = pairs
pairs_with pairs (one ∷ more) = pairs_with (with_pair pairs one.from one.to) more

-- the price of a transfer, if it is not free
abbrev pub price_of : TextTransfer → Option Price
price_of one = option_map (λ pays. record { from = one.from; to = one.to; pays = pays }) one.pays

-- the prices of those that are not free
abbrev pub prices_of : List TextTransfer → List Price
prices_of [] = []
prices_of (one ∷ more) = cons_option (price_of one) (prices_of more)

-- the pairs of places with a transfer, each once, and the prices of those that are not free
pub record TextTransfers : Type 0 where
  pub pairs : List (ℕ × ℕ)
  pub prices : List Price

-- these pairs and prices
abbrev pub text_transfers : List (ℕ × ℕ) → List Price → TextTransfers
text_transfers pairs prices = record { pairs = pairs; prices = prices }

-- the transfers that the text permits
unfoldable pub transfers_of : List (List ℕ) → Members → OrFault TextTransfers
transfers_of modes tree = do
  pairs ← named_pairs tree
  found ← transfers_from modes [] pairs
  Ok (text_transfers (pairs_with [] found) (prices_of found))

-- the text lists a pair of which the one name is that of the mode at the one place, and the other
-- that of the mode at the other
pub record ListsPair (modes : List (List ℕ)) (tree : Members) (from to : ℕ) : Type 0 where
  pub pairs : List NamedPair
  pub listed : named_pairs tree ≡ Ok pairs
  pub pair : NamedPair
  pub is_one : Contains pairs pair
  pub positions : positions_of modes pair.0 ≡ Ok (from, to)
