-- What the text's elements of `validators` say, as the text has them.
use Rattle.std.specs.Prelude.{◌≡◌, ℕ, ◌≤◌, pos, List, Some, Ok, codes}
use Rattle.toml.specs.Data.{Items, Members, string, integer, array, table, get_member, get_item}
use Rattle.fare_table.specs.Modes.{mode_named}

-- the text's `validators` have this element at this place
pub record HasRange (tree : Members) (position : ℕ) (element : Members) : Type 0 where
  pub items : Items
  pub listed : get_member (codes "validators") tree ≡ Some (array items)
  pub holds : get_item position items ≡ Some (table element)

-- the validator is not below the element's first number, and not above its last one
pub record HasValidator (element : Members) (validator : ℕ) : Type 0 where
  pub first : ℕ
  pub is_first : get_member (codes "first") element ≡ Some (integer (pos first))
  pub last : ℕ
  pub is_last : get_member (codes "last") element ≡ Some (integer (pos last))
  pub from : first ≤ validator
  pub upto : validator ≤ last

-- the element names the mode at this place in the list of modes
pub record NamesMode (modes : List (List ℕ)) (element : Members) (mode : ℕ) : Type 0 where
  pub name : List ℕ
  pub written : get_member (codes "mode") element ≡ Some (string name)
  pub named : mode_named modes name ≡ Ok mode

-- the text's element at this place has the validator
pub record RangeHas (tree : Members) (validator position : ℕ) : Type 0 where
  pub element : Members
  pub listed : HasRange tree position element
  pub has : HasValidator element validator

-- an element of the text has the validator, and names the mode
pub record RangeGives (modes : List (List ℕ)) (tree : Members) (validator mode : ℕ) : Type 0 where
  pub position : ℕ
  pub element : Members
  pub listed : HasRange tree position element
  pub has : HasValidator element validator
  pub names : NamesMode modes element mode
