-- The names of classes that are kept.
use Rattle.class_names.specs.Classes.{class_among, class_of_token}
use Rattle.class_names.specs.declared.names.{ClassNames.ClassNames, DatedNames.DatedNames}
use Rattle.class_names.specs.declared.names.TextNames.{TextNames}
use Rattle.std.specs.BTreeMap.{BTreeMap, is_at}
use Rattle.std.specs.{Cmp.Lexicographic.slice_cmp, List.AllZip, Map.lookup, Ordering.nat_cmp}
use Rattle.std.specs.Prelude.{◌≡◌, ℕ, List, [], ◌∷◌, Option, Some, option_map, string_bytes, String}
use Rattle.std.specs.Prelude.{if◌then◌else◌, nat_le, unwrap_or}
use Rattle.std.specs.declared.alloc.Global.{Global}
use Rattle.toml.specs.Data.{Members}

-- the class that is kept for a rider's token
abbrev pub rider_by : BTreeMap (List ℕ) (String Global) → List ℕ → Option (List ℕ)
rider_by riders token =
    option_map string_bytes (lookup (is_at (slice_cmp nat_cmp token)) riders.entries)

-- the class that is kept of a text for a token, else the one of all others
abbrev pub class_in : TextNames → List ℕ → List ℕ
class_in names token = unwrap_or (rider_by names.riders token) (string_bytes names.usual)

-- the names that are valid at the moment: the first ones until later ones are valid, and so on
abbrev pub names_at : TextNames → List DatedNames → ℕ → TextNames
names_at names [] moment = names
names_at names (next ∷ later) moment =
    if nat_le next.from moment then names_at next.names later moment else names

-- the class that is kept for a token at the moment
abbrev pub class_by : ClassNames → ℕ → List ℕ → List ℕ
class_by names moment token = class_in (names_at names.first names.later.items moment) token

-- the class of each token is the one that the text names whose tree this is
abbrev pub NamesOf : TextNames → Members → Type 0
NamesOf names tree = (token : List ℕ) → class_of_token tree token ≡ Some (class_in names token)

-- the names are those of this tree, and are valid from its moment on
abbrev pub IsDatedOf : DatedNames → ℕ × Members → Type 0
IsDatedOf names dated = (names.from ≡ dated.0) × NamesOf names.names dated.1

-- The names are those of these trees: of the one that is valid first, and of those that follow,
-- each with the moment from which it is valid.
pub record HasClasses (names : ClassNames) (tree : Members) (later : List (ℕ × Members))
    : Type 0 where
  pub of_first : NamesOf names.first tree
  pub of_later : AllZip IsDatedOf names.later.items later

-- the classes that are kept are those of these keys
abbrev pub HasRiders : Members → BTreeMap (List ℕ) (String Global) → Type 0
HasRiders keys riders = (token : List ℕ) → rider_by riders token ≡ class_among keys token
