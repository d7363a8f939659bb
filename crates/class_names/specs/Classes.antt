-- The class of a token's rider, as the texts of fare tables name it.
use Rattle.hex.specs.Hex.{decode_sized}
use Rattle.std.specs.{List.list_all, Option.option_and_then}
use Rattle.std.specs.Prelude.{◌≡◌, ℕ, ◌&&◌, ◌||◌, ◌==◌, Bool, true, false, List, [], ◌∷◌, Option}
use Rattle.std.specs.Prelude.{Some, None, codes, if◌then◌else◌, length, nat_le}
use Rattle.std.specs.Result.{result_ok}
use Rattle.tariffs.specs.{Fares.Fares, TableMeaning.TableMeaning}
use Rattle.toml.specs.Data.{Data, Members, no_members, member, as_str, as_table, get_member}
use Rattle.toml.specs.{Data.same_key, Parse.parse_document}

-- these are the bytes of the token
abbrev pub is_token : List ℕ → Option (List ℕ) → Bool
is_token token None = false
is_token token (Some bytes) = same_key bytes token

-- the class of a key of riders, if its 32 hexadecimal digits name the token
abbrev pub class_at : List ℕ → Data → List ℕ → Option (List ℕ)
class_at key value token =
    if is_token token (result_ok (decode_sized key 16)) then as_str value else None

-- the first of two classes, if there is one
abbrev pub first_class : Option (List ℕ) → Option (List ℕ) → Option (List ℕ)
first_class None other = other
first_class (Some class) other = Some class

-- the class of the first of these keys of riders that names the token and has one
abbrev pub class_among : Members → List ℕ → Option (List ℕ)
class_among no_members token = None
class_among (member key value more) token =
    first_class (class_at key value token) (class_among more token)

-- the members of the table, or none if it is none
abbrev pub members_or_none : Option Members → Members
members_or_none None = no_members
members_or_none (Some members) = members

-- the keys of the text's `riders`
abbrev pub riders_in : Members → Members
riders_in tree = members_or_none (option_and_then as_table (get_member (codes "riders") tree))

-- the class that the text's `default_class` names
abbrev pub default_in : Members → Option (List ℕ)
default_in tree = option_and_then as_str (get_member (codes "default_class") tree)

-- the class of the token's rider: that of the rider's own key, else the default class
abbrev pub class_of_token : Members → List ℕ → Option (List ℕ)
class_of_token tree token = first_class (class_among (riders_in tree) token) (default_in tree)

-- The tree that is valid at the moment, of texts that follow one another: the first one until a
-- later one is valid, and so on. Before each later one is the moment from which it is valid.
abbrev pub tree_at : Members → List (ℕ × Members) → ℕ → Members
tree_at tree [] moment = tree
tree_at tree (next ∷ later) moment =
    if nat_le next.0 moment then tree_at next.1 later moment else tree

-- the trees of the texts of tables that follow, each after the moment from which its table is
-- valid
abbrev pub AreLaterTrees : List (ℕ × TableMeaning) → List (List ℕ) → List (ℕ × Members) → Type 0
AreLaterTrees [] [] [] = Unit {0}
AreLaterTrees (dated ∷ later) (text ∷ texts) (tree ∷ trees) =
    (tree.0 ≡ dated.0) × (parse_document text ≡ Some tree.1) × AreLaterTrees later texts trees
AreLaterTrees _ _ _ = ⊥

-- the trees of these texts, of which the first is the one of the table that is valid first
abbrev pub AreTrees : Fares → List (List ℕ) → Members → List (ℕ × Members) → Type 0
AreTrees fares [] tree trees = ⊥
AreTrees fares (text ∷ texts) tree trees =
    (parse_document text ≡ Some tree) × AreLaterTrees fares.later texts trees

-- a letter, a digit, a hyphen or a low line
abbrev pub is_bare : ℕ → Bool
is_bare byte =
    (nat_le 97 byte && nat_le byte 122) || ((nat_le 65 byte && nat_le byte 90)
    || ((nat_le 48 byte && nat_le byte 57) || (byte == 45 || byte == 95)))

-- The name can be in a ledger: it is one of TOML's bare keys, and has at most 64 bytes.
abbrev pub is_plain_name : List ℕ → Bool
is_plain_name name =
    nat_le 1 (length name) && (nat_le (length name) 64 && list_all is_bare name)

-- the class that a value names, if it names one, can be in a ledger
abbrev pub is_plain_or_none : Option (List ℕ) → Bool
is_plain_or_none None = true
is_plain_or_none (Some name) = is_plain_name name

-- the classes that these keys name can be in a ledger
abbrev pub are_plain : Members → Bool
are_plain no_members = true
are_plain (member key value more) = is_plain_or_none (as_str value) && are_plain more

-- the classes that the text names for riders, and the default one, can be in a ledger
abbrev pub has_plain_classes : Members → Bool
has_plain_classes tree = is_plain_or_none (default_in tree) && are_plain (riders_in tree)
