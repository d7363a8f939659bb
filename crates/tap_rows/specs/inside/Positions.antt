-- Where the columns of a choice are: what private functions alone cite.
use Rattle.std.specs.{Borrow.Bor, List.AllZip}
use Rattle.std.specs.Prelude.{◌≡◌, ℕ, Bool, List, Option, None, Some, false, length, map, true}
use Rattle.tap_rows.specs.Agencies.{IsWanting, LacksColumnAt}
use Rattle.tap_rows.specs.AgencyRows.{HeadLayout, IsColumn}
use Rattle.tap_rows.specs.declared.agency.choice.{Choice.Choice, Condition.Condition}
use Rattle.tap_rows.specs.declared.agency.fault.{AgencyFault.AgencyFault, Wanted.Wanted}
use Rattle.tap_rows.specs.declared.agency.positions.{Positions.Positions, Test.Test}
use Rattle.tap_rows.specs.declared.agency.fault.AgencyFault.TheVariants as fault
use Rattle.tap_rows.specs.declared.agency.fault.Wanted.TheVariants as wanted

-- the test is of the condition's column, and of its value
abbrev pub IsTestOf : List (List ℕ) → Condition → Test → Type 0
IsTestOf head condition test =
    IsColumn head condition.column.now test.position × (test.value.now ≡ condition.value.now)

-- the position is that of the column of this name, if there is a name
abbrev pub IsPositionOf : List (List ℕ) → Option (Bor (List ℕ)) → Option ℕ → Type 0
IsPositionOf head None None = Unit {0}
IsPositionOf head (Some name) (Some position) = IsColumn head name.now position
IsPositionOf head name position = ⊥

-- the positions are those of the choice's columns in this head
pub record ArePositions (choice : Choice) (head : List (List ℕ)) (positions : Positions)
    : Type 0 where
  pub width : length head ≡ positions.width
  pub token : IsColumn head choice.columns.now.token.now positions.token
  pub validator : IsColumn head choice.columns.now.validator.now positions.validator
  pub moment : IsColumn head choice.columns.now.moment.now positions.moment
  pub only : AllZip (IsTestOf head) choice.columns.now.only.items positions.only.items
  pub without : AllZip (IsTestOf head) choice.columns.now.without.items positions.without.items
  pub count : IsPositionOf head choice.columns.now.count positions.count

-- a test, and the positions, as contracts see them
abbrev pub test_of : Test → ℕ × List ℕ
test_of test = (test.position, test.value.now)

abbrev pub layout_of : Positions → HeadLayout
layout_of positions = record {
  width = positions.width;
  token = positions.token;
  validator = positions.validator;
  moment = positions.moment;
  only = map test_of positions.only.items;
  without = map test_of positions.without.items;
  count = positions.count;
}

-- the column of the condition at this position: of one that keeps rows, or leaves them out
abbrev pub wanted_at : Bool → ℕ → Wanted
wanted_at true position = wanted.Only position
wanted_at false position = wanted.Without position

-- why the tests of conditions were not made
abbrev pub IsTestsFault : Bool → List Condition → List (List ℕ) → AgencyFault → Type 0
IsTestsFault is_only conditions head (fault.Column which) = (position : ℕ)
    × (which ≡ wanted_at is_only position) × LacksColumnAt head conditions position
IsTestsFault is_only conditions head fault.NoMemory = Unit {0}

-- why the positions were not found
abbrev pub IsHeadFault : Choice → List (List ℕ) → AgencyFault → Type 0
IsHeadFault choice head (fault.Column wanted) = IsWanting choice head wanted
IsHeadFault choice head fault.NoMemory = Unit {0}
