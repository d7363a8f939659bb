-- The names of classes by their places, which rise.
use Rattle.std.proofs.Common.{◌≡◌, ℕ, zero, suc, ◌<◌, true, false, List, [], ◌∷◌, ◌++◌, Some, refl}
use Rattle.std.proofs.Common.{sym, ap, ◌∙◌, arith, length, get_or, map, Less, Equal, Bor, String}
use Rattle.std.proofs.Common.{Global, string_bytes}
use Rattle.fare_table.specs.Classes.{count_of, position_of}
use Rattle.fare_table.specs.{Members.names_in, inside.ByteOrder.in_byte_order}
use Rattle.std.proofs.lemmas.{Bool.and_parts, Bool.and_from, List.get_or-map, List.length-map}
use Rattle.std.proofs.lemmas.Map.{Lookups.exact_bytes, Text.is_eq-slice_cmp}
use Rattle.std.specs.Cmp.Lexicographic.{nat_list_cmp_total, slice_cmp}
use Rattle.std.specs.{List.Sorted.IsStrictlySortedBy, Map.keys_of, Ordering.is_eq, Ordering.is_lt}
use Rattle.std.specs.{Ordering.nat_cmp, Ordering.ordering_reverse, String.string_cmp}
use Rattle.tap_views.proofs.Orderings.{less_of}
use Rattle.tariffs.proofs.ByteLemmas.{is_itself}
use Rattle.tariffs.specs.Names.{same_name}
use Rattle.toml.proofs.Views.{is_before-sorted}
use Rattle.toml.specs.Data.{Members, no_members, member, is_before}
use Rattle.toml.specs.{View.members_view, declared.value.Value.Value}

-- the keys of a map come in byte order
pub ordered_view : (entries : List (String Global × Value))
    → IsStrictlySortedBy string_cmp (keys_of entries)
    → in_byte_order (members_view entries) ≡ true
unfolding IsStrictlySortedBy
ordered_view [] sorted = refl
ordered_view (e ∷ more) sorted =
    and_from (is_before (string_bytes e.0) (members_view more)) (in_byte_order (members_view more))
    (is_before-sorted e.0 more sorted.0) (ordered_view more sorted.1)

-- a name before the first one is before those behind it
pub before_rest : (key first : List ℕ) (rest : Members) → slice_cmp nat_cmp key first ≡ Less
    → is_before first rest ≡ true → is_before key rest ≡ true
before_rest key first no_members less before = refl
before_rest key first (member next value rest) less before =
    ap is_lt ((nat_list_cmp_total).trans key first next less
    (less_of (slice_cmp nat_cmp first next) before))

-- a name before the first one is before each
before_all : (key : List ℕ) (more : Members) (n : ℕ) (d : List ℕ) → is_before key more ≡ true
    → in_byte_order more ≡ true → n < length (names_in more)
    → slice_cmp nat_cmp key (get_or (names_in more) n d) ≡ Less
before_all key no_members n d before order below = absurd (omega (arith, below))
before_all key (member first value rest) zero d before order below =
    less_of (slice_cmp nat_cmp key first) before
before_all key (member first value rest) (suc n) d before order below =
    let parts = and_parts (is_before first rest) (in_byte_order rest) order in
    before_all key rest n d
    (before_rest key first rest (less_of (slice_cmp nat_cmp key first) before) parts.0) parts.1
    (omega (arith, below))

not_same : (name other : List ℕ) → slice_cmp nat_cmp other name ≡ Less
    → same_name name other ≡ false
not_same name other less =
    sym (is_eq-slice_cmp name other)
    ∙ ap is_eq ((nat_list_cmp_total).antisymm name other ∙ ap ordering_reverse less)

-- the place at which a name stands is the place of the class of the name
pub position_at : (members : Members) (name : List ℕ) (n : ℕ) → in_byte_order members ≡ true
    → n < length (names_in members) → get_or (names_in members) n [] ≡ name
    → position_of name members ≡ Some n
position_at no_members name n order below at = absurd (omega (arith, below))
position_at (member key value more) name zero order below at =
    let here : same_name name key ≡ true =
    sym (is_eq-slice_cmp name key) ∙ ap (λ (k : List ℕ). is_eq (slice_cmp nat_cmp name k)) at
    ∙ is_itself name in
    rw here refl
position_at (member key value more) name (suc n) order below at =
    let parts = and_parts (is_before key more) (in_byte_order more) order in
    let less : slice_cmp nat_cmp key name ≡ Less =
    ap (λ (k : List ℕ). slice_cmp nat_cmp key k) (sym at)
    ∙ before_all key more n [] parts.0 parts.1 (omega (arith, below)) in
    let other : same_name name key ≡ false = not_same name key less in
    let rest = position_at more name n parts.1 (omega (arith, below)) at in
    rw (other, rest) refl

pub count_names : (members : Members) → length (names_in members) ≡ count_of members
count_names no_members = refl
count_names (member key value more) = ap suc (count_names more)

-- one more name behind those that were found
pub names_push : (earlier found : List (Bor (List ℕ))) (one : Bor (List ℕ)) (name : List ℕ)
    (more : List (List ℕ)) → found ≡ earlier ++ one ∷ [] → name ≡ one.now
    → map (λ one. one.now) earlier ++ name ∷ more ≡ map (λ one. one.now) found ++ more
names_push [] found one name more same is = rw (same, is) refl
names_push (first ∷ earlier) found one name more same is =
    rw same (ap (λ (rest : List (List ℕ)). first.now ∷ rest)
    (names_push earlier (earlier ++ one ∷ []) one name more refl is))

-- a name that stands at a place is found there
pub found_at : (names : List (Bor (List ℕ))) (members : Members) (name : List ℕ) (position : ℕ)
    (d : Bor (List ℕ)) → map (λ one. one.now) names ≡ names_in members
    → in_byte_order members ≡ true → position < length names
    → slice_cmp nat_cmp (get_or names position d).now name ≡ Equal
    → (position_of name members ≡ Some position) × (position < count_of members)
found_at names members name position d listed increasing below same =
    let long : length names ≡ length (names_in members) =
    sym (length-map names (λ one. one.now)) ∙ ap length listed in
    let here : get_or (names_in members) position [] ≡ name =
    ap (λ (ns : List (List ℕ)). get_or ns position []) (sym listed)
    ∙ get_or-map (λ one. one.now) names position d [] below
    ∙ exact_bytes (get_or names position d).now name same in
    let inside : position < length (names_in members) = omega (arith, below, long) in (
      position_at members name position increasing inside here,
      omega (arith, inside, count_names members),
    )
