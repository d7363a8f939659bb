-- The columns of a head, and the values of a row in them.
use Rattle.std.proofs.Common.{◌≡◌, ◌∙◌, ℕ, zero, suc, ◌+◌, ◌<◌, ◌≤◌, List, [], ◌∷◌, ◌++◌, Bor, None}
use Rattle.std.proofs.Common.{Some, ap, arith, length, map, refl, subst, sym, true, false}
use Rattle.csv.specs.Records.{field_at}
use Rattle.std.proofs.lemmas.{List.take_more, Slice.Eq.bytes_eq-Decides}
use Rattle.std.specs.{List.AllZip, Prelude.Bool, Prelude.IsSomeAnd}
use Rattle.std.specs.Prelude.{MatchOption, Option, if◌then◌else◌, option_map, slice_index_or, take}
use Rattle.std.specs.Str.{bytes_eq}
use Rattle.tap_rows.specs.Agencies.{HasNoColumn, IsWanting, LacksColumnAt}
use Rattle.tap_rows.specs.AgencyRows.{HeadLayout, IsColumn, layout_in, position_in, test_in}
use Rattle.tap_rows.specs.declared.agency.choice.{Choice.Choice, Condition.Condition}
use Rattle.tap_rows.specs.declared.agency.fault.{AgencyFault.AgencyFault, Wanted.Wanted}
use Rattle.tap_rows.specs.declared.agency.positions.{Positions.Positions, Test.Test}
use Rattle.tap_rows.specs.inside.Positions.{ArePositions, IsHeadFault, IsPositionOf, IsTestOf}
use Rattle.tap_rows.specs.inside.Positions.{IsTestsFault, layout_of, test_of, wanted_at}
use Rattle.tap_rows.specs.declared.agency.fault.AgencyFault.TheVariants as fault
use Rattle.tap_rows.specs.declared.agency.fault.Wanted.TheVariants as wanted

-- a field that is there is within the fields
pub field_within : (fields : List (List ℕ)) (position : ℕ) (value : List ℕ)
    → field_at fields position ≡ Some value → position < length fields
unfolding field_at
field_within [] position value is = absurd (cc)
field_within (f ∷ fields) zero value is = omega arith
field_within (f ∷ fields) (suc position) value is =
    let rest = field_within fields position value is in
    omega (arith, rest)

-- a place within the fields has one
pub field_there : (fields : List (List ℕ)) (position : ℕ) → position < length fields
    → (value : List ℕ) × (field_at fields position ≡ Some value)
unfolding field_at
field_there [] position within = absurd (omega (arith, within))
field_there (f ∷ fields) zero within = (f, refl)
field_there (f ∷ fields) (suc position) within = field_there fields position (omega (arith, within))

-- a field that was not got is not there
pub none_there : (fields : List (List ℕ)) (position : ℕ) (got : Option (Bor (List ℕ)))
    → option_map (λ s. s.now) got ≡ field_at fields position → got ≡ None
    → ¬ (position < length fields)
none_there fields position None is none within =
    let there = (field_there fields position within).1 in
    absurd (cc (is, there))
none_there fields position (Some x) is none within = absurd (cc none)

-- ---- the conditions
pub zip_more : {A B : Type 0} (R : A → B → Type 0) (xs : List A) (ys : List B) (x : A) (y : B)
    → AllZip R xs ys → R x y → AllZip R (xs ++ x ∷ []) (ys ++ y ∷ [])
zip_more R [] [] x y all is = (is, tt)
zip_more R [] (b ∷ ys) x y all is = absurd all
zip_more R (a ∷ xs) [] x y all is = absurd all
zip_more R (a ∷ xs) (b ∷ ys) x y all is = (all.0, zip_more R xs ys x y all.1 is)

pub tests_more : (head : List (List ℕ)) (conditions : List Condition) (tests more : List Test)
    (k : ℕ) (d : Condition) (test : Test) → AllZip (IsTestOf head) (take k conditions) tests
    → k < length conditions → more ≡ tests ++ test ∷ []
    → IsTestOf head (slice_index_or conditions k d) test
    → AllZip (IsTestOf head) (take (k + 1) conditions) more
tests_more head conditions tests more k d test all within pushed is =
    subst (λ ts. AllZip (IsTestOf head) (take (k + 1) conditions) ts) (sym pushed)
    (subst (λ cs. AllZip (IsTestOf head) cs (tests ++ test ∷ []))
    (sym (take_more conditions k d within))
    (zip_more (IsTestOf head) (take k conditions) tests (slice_index_or conditions k d) test all
    is))

-- what a search of the whole head has found
pub column_found : (head : List (List ℕ)) (name : List ℕ) (end : ℕ) (found : Option ℕ)
    → length head ≤ end
    → MatchOption found ((k : ℕ) → k < end → ¬ (field_at head k ≡ Some name))
    (λ at. (at < end) × (field_at head at ≡ Some name)
    × ((k : ℕ) → k < end → field_at head k ≡ Some name → k ≡ at))
    → MatchOption found ((position : ℕ) → ¬ (IsColumn head name position))
    (λ position. IsColumn head name position)
column_found head name end None whole none = λ position is.
    let within = field_within head position name is.named in
    none position (omega (arith, within, whole)) is.named
column_found head name end (Some at) whole is = record {
  named = is.1;
  once = λ other named. let within = field_within head other name named in
      is.2 other (omega (arith, within, whole)) named;
}

-- why tests were not made, as what the head lacks
pub tests_fault : (is_only : Bool) (choice : Choice) (conditions : List Condition)
    (head : List (List ℕ)) (f : AgencyFault)
    → ((position : ℕ) → LacksColumnAt head conditions position
    → IsWanting choice head (wanted_at is_only position))
    → IsTestsFault is_only conditions head f → IsHeadFault choice head f
tests_fault is_only choice conditions head (fault.Column which) lacks is =
    subst (IsWanting choice head) (sym is.1) (lacks is.0 is.2)
tests_fault is_only choice conditions head fault.NoMemory lacks is = is

-- ---- the positions, as the head gives them
position_is : (head : List (List ℕ)) (name : List ℕ) (position : ℕ)
    → field_at head position ≡ Some name
    → ((other : ℕ) → field_at head other ≡ Some name → other ≡ position)
    → position ≡ position_in head name
unfolding field_at
position_is [] name position named once = absurd (cc named)
position_is (first ∷ head) name zero named once = by_first (bytes_eq first name) refl
  where
    by_first : (b : Bool) → bytes_eq first name ≡ b
        → 0 ≡ (if b then 0 else position_in head name + 1)
    by_first true same = refl
    by_first false other = absurd (cc (other, (bytes_eq-Decides first name).1 (cc named)))
position_is (first ∷ head) name (suc position) named once =
    by_first (bytes_eq first name) refl
    (position_is head name position named (λ other is. let same = once (suc other) is in
    omega (arith, same)))
  where
    by_first : (b : Bool) → bytes_eq first name ≡ b → position ≡ position_in head name
        → suc position ≡ (if b then 0 else position_in head name + 1)
    by_first true equal more =
        let same = once 0 (ap Some ((bytes_eq-Decides first name).0 equal)) in absurd (omega (arith, same))
    by_first false other more = omega (arith, more)

abbrev pair : ℕ → List ℕ → ℕ × List ℕ
pair position value = (position, value)

tests_are : (head : List (List ℕ)) (conditions : List Condition) (tests : List Test)
    → AllZip (IsTestOf head) conditions tests → map test_of tests ≡ map (test_in head) conditions
tests_are head [] [] all = refl
tests_are head [] (t ∷ tests) all = absurd all
tests_are head (c ∷ conditions) [] all = absurd all
tests_are head (c ∷ conditions) (t ∷ tests) all =
    let first : pair t.position t.value.now
    ≡ pair (position_in head c.column.now) c.value.now =
    ap (λ p. pair p t.value.now)
    (position_is head c.column.now t.position all.0.0.named all.0.0.once)
    ∙ ap (λ v. pair (position_in head c.column.now) v) all.0.1 in
    ap (λ x. x ∷ map test_of tests) first
    ∙ ap (λ xs. test_in head c ∷ xs) (tests_are head conditions tests all.1)

count_is : (head : List (List ℕ)) (name : Option (Bor (List ℕ))) (count : Option ℕ)
    → IsPositionOf head name count → count ≡ option_map (λ n. position_in head n.now) name
count_is head None None is = refl
count_is head None (Some position) is = absurd is
count_is head (Some name) None is = absurd is
count_is head (Some name) (Some position) is =
    ap Some (position_is head name.now position is.named is.once)

abbrev layout_having : ℕ → ℕ → ℕ → ℕ → List (ℕ × List ℕ) → List (ℕ × List ℕ) → Option ℕ
    → HeadLayout
layout_having width token validator moment only without count = record {
  width = width;
  token = token;
  validator = validator;
  moment = moment;
  only = only;
  without = without;
  count = count;
}

pub layout_is : (choice : Choice) (head : List (List ℕ)) (positions : Positions)
    → ArePositions choice head positions → layout_of positions ≡ layout_in choice head
layout_is choice head positions are =
    let of = layout_of positions in
    let to = layout_in choice head in
    let width : of.width ≡ to.width = sym are.width in
    let token : of.token ≡ to.token =
    position_is head _ of.token are.token.named are.token.once in
    let validator : of.validator ≡ to.validator =
    position_is head _ of.validator are.validator.named are.validator.once in
    let moment : of.moment ≡ to.moment =
    position_is head _ of.moment are.moment.named are.moment.once in
    let only : of.only ≡ to.only = tests_are head _ _ are.only in
    let without : of.without ≡ to.without = tests_are head _ _ are.without in
    let count : of.count ≡ to.count = count_is head _ _ are.count in
    ap (λ x. layout_having x of.token of.validator of.moment of.only of.without of.count) width
    ∙ ap (λ x. layout_having to.width x of.validator of.moment of.only of.without of.count) token
    ∙ ap (λ x. layout_having to.width to.token x of.moment of.only of.without of.count) validator
    ∙ ap (λ x. layout_having to.width to.token to.validator x of.only of.without of.count) moment
    ∙ ap (λ x. layout_having to.width to.token to.validator to.moment x of.without of.count) only
    ∙ ap (λ x. layout_having to.width to.token to.validator to.moment to.only x of.count) without
    ∙ ap (λ x. layout_having to.width to.token to.validator to.moment to.only to.without x) count

-- ---- no column is wanting if all were found
tests_there : (head : List (List ℕ)) (conditions : List Condition) (tests : List Test) (k : ℕ)
    → AllZip (IsTestOf head) conditions tests → ¬ (LacksColumnAt head conditions k)
tests_there head [] [] k all none = none
tests_there head [] (t ∷ tests) k all none = absurd all
tests_there head (c ∷ conditions) [] k all none = absurd all
tests_there head (c ∷ conditions) (t ∷ tests) zero all none = none t.position all.0.0
tests_there head (c ∷ conditions) (t ∷ tests) (suc k) all none =
    tests_there head conditions tests k all.1 none

count_there : (head : List (List ℕ)) (name : Option (Bor (List ℕ))) (count : Option ℕ)
    → IsPositionOf head name count → ¬ (IsSomeAnd name (λ n. HasNoColumn head n.now))
count_there head None None is none = none
count_there head None (Some position) is none = absurd is
count_there head (Some name) None is none = absurd is
count_there head (Some name) (Some position) is none = none position is

pub no_wanting : (choice : Choice) (head : List (List ℕ)) (positions : Positions)
    → ArePositions choice head positions → (column : Wanted) → ¬ (IsWanting choice head column)
no_wanting choice head positions are wanted.Token none = none positions.token are.token
no_wanting choice head positions are wanted.Validator none =
    none positions.validator are.validator
no_wanting choice head positions are wanted.Moment none = none positions.moment are.moment
no_wanting choice head positions are (wanted.Only k) none =
    tests_there head _ positions.only.items k are.only none
no_wanting choice head positions are (wanted.Without k) none =
    tests_there head _ positions.without.items k are.without none
no_wanting choice head positions are wanted.Count none =
    count_there head _ positions.count are.count none
