-- What stands in the text if a step that reads a key came to an end.
use Rattle.std.proofs.Common.{◌≡◌, ℕ, ◌≤◌, ◌&&◌, Bool, true, false, List, Option, Some, None, Ok}
use Rattle.std.proofs.Common.{Err, refl, sym, ap, arith}
use Rattle.fare_table.specs.Members.{array_at, number_at, number_in, of_kind, table_at, text_at}
use Rattle.fare_table.specs.Members.{number_or, within}
use Rattle.fare_table.specs.{OrFault.◌>>=◌, Paying.IsNumberOr, declared.fault.Key.Key}
use Rattle.fare_table.specs.declared.fault.TableFault.TheVariants.{Missing, Range}
use Rattle.std.proofs.lemmas.Bool.{and_parts, leb-true}
use Rattle.std.specs.Option.{ok_or}
use Rattle.std.specs.Prelude.{ℤ, pos, negsuc, nat_le, if◌then◌else◌}
use Rattle.toml.specs.Data.{Data, Items, Members, string, integer, array, table, as_str, as_array}
use Rattle.toml.specs.Data.{as_table, get_member}

pub is_text : (value : Data) (key : Key) (text : List ℕ) → of_kind key (as_str value) ≡ Ok text
    → value ≡ string text
is_text (string s) key text is = cc
is_text _ key text is = absurd (cc)

is_array : (value : Data) (key : Key) (items : Items) → of_kind key (as_array value) ≡ Ok items
    → value ≡ array items
is_array (array ds) key items is = cc
is_array _ key items is = absurd (cc)

pub is_table : (value : Data) (key : Key) (inner : Members)
    → of_kind key (as_table value) ≡ Ok inner → value ≡ table inner
is_table (table ms) key inner is = cc
is_table _ key inner is = absurd (cc)

-- a number from the one limit to the other
pub record IsNumber (value : Data) (low high n : ℕ) : Type 0 where
  pub is : value ≡ integer (pos n)
  pub above : low ≤ n
  pub below : n ≤ high

within_if : (b : Bool) (key : Key) (m n : ℕ) → (if b then Ok m else Err (Range key)) ≡ Ok n
    → (b ≡ true) × (m ≡ n)
within_if true key m n is = (refl, cc)
within_if false key m n is = absurd (cc)

is_within : (number : ℤ) (key : Key) (low high n : ℕ) → within key low high number ≡ Ok n
    → (number ≡ pos n) × (low ≤ n) × (n ≤ high)
is_within (pos m) key low high n is =
    let both = within_if (nat_le low m && nat_le m high) key m n is in
    let bounds = and_parts (nat_le low m) (nat_le m high) both.0 in
    let above = leb-true low m bounds.0 in
    let below = leb-true m high bounds.1 in
    (ap pos both.1, omega (arith, above, both.1), omega (arith, below, both.1))
is_within (negsuc m) key low high n is = absurd (cc)

pub is_number : (value : Data) (key : Key) (low high n : ℕ) → number_in key low high value ≡ Ok n
    → IsNumber value low high n
is_number (integer z) key low high n is =
    let read = is_within z key low high n is in
    record { is = ap integer read.0; above = read.1; below = read.2 }
is_number _ key low high n is = absurd (cc)

pub is_number_or : (o : Option Data) (key : Key) (default low high n : ℕ)
    → number_or default key low high o ≡ Ok n → IsNumberOr default o n
is_number_or None key default low high n is = let same : default ≡ n = cc in sym same
is_number_or (Some value) key default low high n is = (is_number value key low high n is).is

needed_text : (o : Option Data) (key : Key) (text : List ℕ)
    → (ok_or o (Missing key) >>= (λ value. of_kind key (as_str value))) ≡ Ok text
    → o ≡ Some (string text)
needed_text None key text is = absurd (cc)
needed_text (Some value) key text is = ap Some (is_text value key text is)

needed_array : (o : Option Data) (key : Key) (items : Items)
    → (ok_or o (Missing key) >>= (λ value. of_kind key (as_array value))) ≡ Ok items
    → o ≡ Some (array items)
needed_array None key items is = absurd (cc)
needed_array (Some value) key items is = ap Some (is_array value key items is)

needed_table : (o : Option Data) (key : Key) (inner : Members)
    → (ok_or o (Missing key) >>= (λ value. of_kind key (as_table value))) ≡ Ok inner
    → o ≡ Some (table inner)
needed_table None key inner is = absurd (cc)
needed_table (Some value) key inner is = ap Some (is_table value key inner is)

-- the value at a key is a number from the one limit to the other
pub record IsNumberAt (o : Option Data) (low high n : ℕ) : Type 0 where
  pub is : o ≡ Some (integer (pos n))
  pub above : low ≤ n
  pub below : n ≤ high

needed_number : (o : Option Data) (key : Key) (low high n : ℕ)
    → (ok_or o (Missing key) >>= number_in key low high) ≡ Ok n → IsNumberAt o low high n
needed_number None key low high n is = absurd (cc)
needed_number (Some value) key low high n is =
    let read = is_number value key low high n is in
    record { is = ap Some read.is; above = read.above; below = read.below }

pub text-read : (name : List ℕ) (key : Key) (tree : Members) (text : List ℕ)
    → text_at name key tree ≡ Ok text → get_member name tree ≡ Some (string text)
text-read name key tree = needed_text (get_member name tree) key

pub array-read : (name : List ℕ) (key : Key) (tree : Members) (items : Items)
    → array_at name key tree ≡ Ok items → get_member name tree ≡ Some (array items)
array-read name key tree = needed_array (get_member name tree) key

pub table-read : (name : List ℕ) (key : Key) (tree : Members) (inner : Members)
    → table_at name key tree ≡ Ok inner → get_member name tree ≡ Some (table inner)
table-read name key tree = needed_table (get_member name tree) key

pub number-read : (name : List ℕ) (key : Key) (low high : ℕ) (tree : Members) (n : ℕ)
    → number_at name key low high tree ≡ Ok n → IsNumberAt (get_member name tree) low high n
number-read name key low high tree = needed_number (get_member name tree) key low high
