-- The mode of a validator is the one that the text's element which has it names.
use Rattle.std.proofs.Common.{◌≡◌, ◌⊎◌, ◌↔◌, ℕ, ◌<◌, ◌≤◌, ◌||◌, Bool, true, false, List, [], ◌∷◌}
use Rattle.std.proofs.Common.{Option, Some, None, Ok, Err, cond, option_map, refl, sym, ap, ◌∙◌}
use Rattle.std.proofs.Common.{arith, inl, inr, ⊎_elim, zero, suc, codes, le-leb}
use Rattle.fare_table.proofs.OverlapLemmas.{holds-insert, comes_after, comes_before, free_apart}
use Rattle.fare_table.proofs.OverlapLemmas.{rest_holds, with_one}
use Rattle.fare_table.proofs.PartLemmas.{bind_ok, parts}
use Rattle.fare_table.proofs.ReadLemmas.{array-read, is_table, number-read, text-read}
use Rattle.fare_table.specs.{Members.are_tables, Modes.mode_named, OrFault.OrFault}
use Rattle.fare_table.specs.TableMeaning.{meaning_of_tree}
use Rattle.fare_table.specs.TextRanges.{RangeGives, RangeHas, HasRange, HasValidator, NamesMode}
use Rattle.fare_table.specs.Validators.{range_in, range_of, ranges_from, ranges_of, share_number}
use Rattle.fare_table.specs.{Validators.with_range, declared.fault.TableFault.TableFault}
use Rattle.fare_table.specs.declared.fault.TableFault.TheVariants.{Kind, Overlap}
use Rattle.std.proofs.lemmas.Bool.{and_parts, cases_Bool, false≢true, leb-true, or_parts}
use Rattle.std.specs.{BTreeMap.insert_entry, List.find, List.list_any, Ordering.nat_cmp}
use Rattle.std.specs.Prelude.{pos, nat_le, if◌then◌else◌}
use Rattle.tap_views.proofs.Choices.{cond_swap}
use Rattle.tariffs.proofs.ApartLemmas.{begins_first}
use Rattle.tariffs.specs.Fares.{has_number, mode_in, range_at}
use Rattle.tariffs.specs.{TableMeaning.TableMeaning, Validators.are_disjoint}
use Rattle.tariffs.specs.declared.validators.RangeRest.{RangeRest}
use Rattle.toml.specs.Data.{Data, Items, no_items, item, Members, string, integer, array, table}
use Rattle.toml.specs.Data.{get_member, get_item}
use Rattle.fare_table.specs.declared.fault.Key.TheVariants as the_key

-- ---- ranges that stand apart, and one more

-- ranges that stand apart have no number both
other_has : (n : ℕ) (one other : ℕ × RangeRest) → one.1.last < other.0 → has_number n one ≡ true
    → has_number n other ≡ false
other_has n one other ends has = elim (cases_Bool (has_number n other)) [
  | inl both ↦
      let upto = leb-true n one.1.last (and_parts (nat_le one.0 n) (nat_le n one.1.last) has).1 in
      let from = leb-true other.0 n (and_parts (nat_le other.0 n) (nat_le n other.1.last) both).0 in
      absurd (omega (arith, upto, from, ends))
  | inr none ↦ none
]

found_step : (n : ℕ) (range other : ℕ × RangeRest) (more : List (ℕ × RangeRest))
    → range.0 ≤ range.1.last
    → other.0 ≤ other.1.last → share_number range other ≡ false
    → find (has_number n) (with_one range more)
    ≡ cond (has_number n range) (Some range) (find (has_number n) more)
    → find (has_number n) (with_one range (other ∷ more))
    ≡ cond (has_number n range) (Some range) (find (has_number n) (other ∷ more))
unfolding with_one
found_step n range other more order further free ih = elim (free_apart range other free) [
  | inl a ↦ rw (comes_before range other order a) refl
  | inr a ↦ rw (comes_after range other further a, ih)
      (cond_swap (has_number n other) (has_number n range) (Some other) (Some range)
      (find (has_number n) more) (other_has n other range a))
]

-- one more range that shares no number with the others has its numbers, and each other keeps its
-- own
found_with : (n : ℕ) (range : ℕ × RangeRest) (ranges : List (ℕ × RangeRest))
    → range.0 ≤ range.1.last
    → are_disjoint ranges ≡ true → list_any (share_number range) ranges ≡ false
    → find (has_number n) (with_one range ranges)
    ≡ cond (has_number n range) (Some range) (find (has_number n) ranges)
unfolding with_one
found_with n range [] order holds free = refl
found_with n range (other ∷ more) order holds free =
    let apart = or_parts (share_number range other) (list_any (share_number range) more) free in
    found_step n range other more order (begins_first other more holds) apart.0
    (found_with n range more order (rest_holds other more holds) apart.1)

-- ranges that both have a number share it
both_have : (n : ℕ) (range other : ℕ × RangeRest) → has_number n range ≡ true
    → has_number n other ≡ true
    → share_number range other ≡ true
both_have n range other one two =
    let a = and_parts (nat_le range.0 n) (nat_le n range.1.last) one in
    let b = and_parts (nat_le other.0 n) (nat_le n other.1.last) two in
    let a0 = leb-true range.0 n a.0 in
    let a1 = leb-true n range.1.last a.1 in
    let b0 = leb-true other.0 n b.0 in
    let b1 = leb-true n other.1.last b.1 in
    let first : nat_le range.0 other.1.last ≡ true = le-leb _ _ (omega (arith, a0, b1)) in
    let second : nat_le other.0 range.1.last ≡ true = le-leb _ _ (omega (arith, b0, a1)) in
    rw (first, second) refl

shared_if : (n : ℕ) (range other : ℕ × RangeRest) (more : List (ℕ × RangeRest)) (b : Bool)
    (found : ℕ × RangeRest)
    → has_number n range ≡ true → has_number n other ≡ b
    → cond b (Some other) (find (has_number n) more) ≡ Some found
    → (find (has_number n) more ≡ Some found → list_any (share_number range) more ≡ true)
    → (share_number range other || list_any (share_number range) more) ≡ true
shared_if n range other more true found has is at later = rw (both_have n range other has is) refl
shared_if n range other more false found has is at later =
    rw (later at) (or_true (share_number range other))
  where
    or_true : (b : Bool) → (b || true) ≡ true
    or_true true = refl
    or_true false = refl

-- a range with a number shares one with ranges of which one has it
shares : (n : ℕ) (range found : ℕ × RangeRest) (ranges : List (ℕ × RangeRest))
    → has_number n range ≡ true
    → find (has_number n) ranges ≡ Some found → list_any (share_number range) ranges ≡ true
shares n range found [] has at = absurd (cc)
shares n range found (other ∷ more) has at =
    shared_if n range other more (has_number n other) found has refl at
    (shares n range found more has)

-- ---- what the elements read as
pub record AddsRange (earlier : List (ℕ × RangeRest)) (range : ℕ
    × RangeRest) (ranges : List (ℕ × RangeRest)) : Type 0 where
  pub free : list_any (share_number range) earlier ≡ false
  pub one : ranges ≡ insert_entry nat_cmp earlier range.0 range.1

added_if : (b : Bool) (earlier ranges : List (ℕ × RangeRest)) (range : ℕ × RangeRest)
    → list_any (share_number range) earlier ≡ b
    → (if b then Err Overlap else Ok (insert_entry nat_cmp earlier range.0 range.1)) ≡ Ok ranges
    → AddsRange earlier range ranges
added_if true earlier ranges range is at = absurd (cc)
added_if false earlier ranges range is at = record { free = is; one = cc }

pub adds_range : (earlier ranges : List (ℕ × RangeRest)) (range : ℕ × RangeRest)
    → with_range earlier range ≡ Ok ranges → AddsRange earlier range ranges
adds_range earlier ranges range is =
    added_if (list_any (share_number range) earlier) earlier ranges range refl is

-- what an element says that reads as a range
pub record Reads (modes : List (List ℕ)) (value : Data) (range : ℕ × RangeRest) : Type 0 where
  pub element : Members
  pub is_table : value ≡ table element
  pub first : get_member (codes "first") element ≡ Some (integer (pos range.0))
  pub last : get_member (codes "last") element ≡ Some (integer (pos range.1.last))
  pub order : range.0 ≤ range.1.last
  pub names : NamesMode modes element range.1.mode

abbrev pub span_of : ℕ → ℕ → RangeRest
span_of last mode = record { last = last; mode = mode }

abbrev pub by_mode : ℕ → ℕ → ℕ → OrFault (ℕ × RangeRest)
by_mode first last mode = Ok (first, span_of last mode)

one_range : (first last mode : ℕ) (range : ℕ × RangeRest) → by_mode first last mode ≡ Ok range
    → (first ≡ range.0) × (last ≡ range.1.last) × (mode ≡ range.1.mode)
one_range first last mode range is =
    (ap (first_of first) is, ap (last_of last) is, ap (mode_of mode) is)
  where
    first_of : ℕ → OrFault (ℕ × RangeRest) → ℕ
    first_of d (Ok r) = r.0
    first_of d (Err e) = d

    last_of : ℕ → OrFault (ℕ × RangeRest) → ℕ
    last_of d (Ok r) = r.1.last
    last_of d (Err e) = d

    mode_of : ℕ → OrFault (ℕ × RangeRest) → ℕ
    mode_of d (Ok r) = r.1.mode
    mode_of d (Err e) = d

reads_table : (modes : List (List ℕ)) (value : Data) (element : Members) (range : ℕ × RangeRest)
    → value ≡ table element → range_of modes element ≡ Ok range → Reads modes value range
unfolding range_of
reads_table modes value element range whole is =
    let first = bind_ok _ _ _ is in
    let last = bind_ok _ _ _ first.2 in
    let name = bind_ok _ _ _ last.2 in
    let mode = bind_ok _ _ _ name.2 in
    let same = one_range first.0 last.0 mode.0 range mode.2 in
    let from = number-read (codes "first") the_key.First 0 4_294_967_295 element first.0 first.1 in
    let upto = number-read (codes "last") the_key.Last first.0 4_294_967_295 element last.0
    last.1 in
    record {
      element = element;
      is_table = whole;
      first = from.is ∙ ap (λ n. Some (integer (pos n))) same.0;
      last = upto.is ∙ ap (λ n. Some (integer (pos n))) same.1;
      order = omega (arith, upto.above, same.0, same.1);
      names = record {
        name = name.0;
        written = text-read (codes "mode") the_key.ModeName element name.0 name.1;
        named = mode.1 ∙ ap (λ m. Ok m) same.2;
      };
    }

pub reads : (modes : List (List ℕ)) (value : Data) (range : ℕ × RangeRest)
    → range_in modes value ≡ Ok range → Reads modes value range
reads modes value range is =
    let element = bind_ok _ _ _ is in
    reads_table modes value element.0 range (is_table value the_key.Validators element.0 element.1)
    element.2

-- ---- the ranges behind some elements
-- the item at the place reads as the range
abbrev pub IsRangeAt : List (List ℕ) → Items → ℕ → ℕ × RangeRest → Type 0
IsRangeAt modes items position range =
    (value : Data) × (get_item position items ≡ Some value) × (range_in modes value ≡ Ok range)

pub record Steps (modes : List (List ℕ)) (earlier : List (ℕ × RangeRest)) (value : Data)
    (more : Items)
    (ranges : List (ℕ × RangeRest)) : Type 0 where
  pub range : ℕ × RangeRest
  pub read : range_in modes value ≡ Ok range
  pub next : List (ℕ × RangeRest)
  pub free : list_any (share_number range) earlier ≡ false
  pub order : range.0 ≤ range.1.last
  pub holds : are_disjoint next ≡ true
  pub found : (n : ℕ) → find (has_number n) next
      ≡ cond (has_number n range) (Some range) (find (has_number n) earlier)
  pub rest : ranges_from modes next more ≡ Ok ranges

pub step : (modes : List (List ℕ)) (earlier : List (ℕ × RangeRest)) (value : Data) (more : Items)
    (ranges : List (ℕ × RangeRest))
    → ranges_from modes earlier (item value more) ≡ Ok ranges → are_disjoint earlier ≡ true
    → Steps modes earlier value more ranges
unfolding with_one
step modes earlier value more ranges is holds =
    let one = bind_ok _ _ _ is in
    let two = bind_ok _ _ _ one.2 in
    let added = adds_range earlier two.0 one.0 two.1 in
    let order = (reads modes value one.0 one.1).order in
    record {
      range = one.0;
      read = one.1;
      next = two.0;
      free = added.free;
      order = order;
      holds = rw added.one (holds-insert one.0 earlier order holds added.free);
      found = λ n. ap (find (has_number n)) added.one
          ∙ found_with n one.0 earlier order holds added.free;
      rest = two.2;
    }

-- a number that a range has
abbrev HasOne : ℕ → List (ℕ × RangeRest) → Type 0
HasOne n ranges = (found : ℕ × RangeRest) × (find (has_number n) ranges ≡ Some found)

has_if : (b : Bool) (n : ℕ) (range found : ℕ × RangeRest) (next : List (ℕ × RangeRest))
    → find (has_number n) next ≡ cond b (Some range) (Some found) → HasOne n next
has_if true n range found next is = (range, is)
has_if false n range found next is = (found, is)

-- an earlier range that has a number is kept
still : (modes : List (List ℕ)) (n : ℕ) (earlier : List (ℕ × RangeRest)) (items : Items)
    (ranges : List (ℕ × RangeRest)) (found : ℕ × RangeRest)
    → ranges_from modes earlier items ≡ Ok ranges
    → are_disjoint earlier ≡ true
    → find (has_number n) earlier ≡ Some found → find (has_number n) ranges ≡ Some found
still modes n earlier no_items ranges found is holds at = let same : earlier ≡ ranges = cc in
    rw (← same) at
still modes n earlier (item value more) ranges found is holds at =
    let s = step modes earlier value more ranges is holds in
    elim (cases_Bool (has_number n s.range)) [
      | inl both ↦ absurd (false≢true (sym s.free ∙ shares n s.range found earlier both at))
      | inr none ↦ still modes n s.next more ranges found s.rest s.holds (s.found n
          ∙ ap (λ b. cond b (Some s.range) (find (has_number n) earlier)) none ∙ at)
    ]

-- what an element reads as, and that it is found by its numbers
there : (modes : List (List ℕ)) (n : ℕ) (earlier : List (ℕ × RangeRest)) (items : Items)
    (ranges : List (ℕ × RangeRest)) (position : ℕ) (value : Data)
    → ranges_from modes earlier items ≡ Ok ranges → are_disjoint earlier ≡ true
    → get_item position items ≡ Some value
    → (range : ℕ × RangeRest) × (range_in modes value ≡ Ok range)
    × (has_number n range ≡ true → find (has_number n) ranges ≡ Some range)
there modes n earlier no_items ranges position value is holds at = absurd (cc)
there modes n earlier (item first more) ranges zero value is holds at =
    let s = step modes earlier first more ranges is holds in
    let same : first ≡ value = cc in (
      s.range,
      ap (range_in modes) (sym same) ∙ s.read,
      λ has. still modes n s.next more ranges s.range s.rest s.holds (s.found n
          ∙ ap (λ b. cond b (Some s.range) (find (has_number n) earlier)) has),
    )
there modes n earlier (item first more) ranges (suc position) value is holds at =
    let s = step modes earlier first more ranges is holds in
    there modes n s.next more ranges position value s.rest s.holds at

came_if : (modes : List (List ℕ)) (n : ℕ) (earlier : List (ℕ × RangeRest)) (value : Data)
    (more : Items)
    (range found : ℕ × RangeRest) (b : Bool) → range_in modes value ≡ Ok range
    → cond b (Some range) (find (has_number n) earlier) ≡ Some found
    → (find (has_number n) earlier ≡ Some found)
    ⊎ ((position : ℕ) × IsRangeAt modes (item value more) position found)
came_if modes n earlier value more range found true read at = let same : range ≡ found = cc in
    inr (zero, (value, refl, read ∙ ap (λ r. Ok r) same))
came_if modes n earlier value more range found false read at = inl at

-- a range that is found is an earlier one or an element's
came : (modes : List (List ℕ)) (n : ℕ) (earlier : List (ℕ × RangeRest)) (items : Items)
    (ranges : List (ℕ
    × RangeRest)) (found : ℕ × RangeRest) → ranges_from modes earlier items ≡ Ok ranges
    → are_disjoint earlier ≡ true
    → find (has_number n) ranges ≡ Some found → (find (has_number n) earlier ≡ Some found)
    ⊎ ((position : ℕ) × IsRangeAt modes items position found)
came modes n earlier no_items ranges found is holds at = let same : earlier ≡ ranges = cc in
    inl (rw same at)
came modes n earlier (item value more) ranges found is holds at =
    let s = step modes earlier value more ranges is holds in
    ⊎_elim
    (λ before. came_if modes n earlier value more s.range found (has_number n s.range) s.read
    (sym (s.found n) ∙ before))
    (λ later. inr (suc later.0, later.1))
    (came modes n s.next more ranges found s.rest s.holds at)

-- no element has a number that an earlier range has
again : (modes : List (List ℕ)) (n : ℕ) (earlier : List (ℕ × RangeRest)) (items : Items)
    (ranges : List (ℕ × RangeRest)) (position : ℕ) (value : Data) (range : ℕ × RangeRest)
    → ranges_from modes earlier items ≡ Ok ranges → are_disjoint earlier ≡ true
    → HasOne n earlier → get_item position items ≡ Some value → range_in modes value ≡ Ok range
    → has_number n range ≡ true → ⊥
again modes n earlier no_items ranges position value range is holds old at read has = absurd (cc)
again modes n earlier (item first more) ranges zero value range is holds old at read has =
    let s = step modes earlier first more ranges is holds in
    let same : first ≡ value = cc in
    let both : Ok s.range ≡ Ok range = sym s.read ∙ ap (range_in modes) same ∙ read in
    let one : s.range ≡ range = cc in
    false≢true (sym s.free ∙ shares n s.range old.0 earlier (rw one has) old.1)
again modes n earlier (item first more) ranges (suc position) value range is holds old at read has =
    let s = step modes earlier first more ranges is holds in
    again modes n s.next more ranges position value range s.rest s.holds
    (has_if (has_number n s.range) n s.range old.0 s.next (s.found n
    ∙ ap (λ o. cond (has_number n s.range) (Some s.range) o) old.1)) at read has

first_has : (modes : List (List ℕ)) (n : ℕ) (earlier : List (ℕ × RangeRest)) (first value : Data)
    (one range : ℕ × RangeRest) (next : List (ℕ × RangeRest)) → range_in modes first ≡ Ok one
    → find (has_number n) next ≡ cond (has_number n one) (Some one) (find (has_number n) earlier)
    → Some first ≡ Some value → range_in modes value ≡ Ok range → has_number n range ≡ true
    → HasOne n next
first_has modes n earlier first value one range next is found at read has =
    let same : first ≡ value = cc in
    let both : Ok one ≡ Ok range = sym is ∙ ap (range_in modes) same ∙ read in
    let here : one ≡ range = cc in (
      one,
      found ∙ ap (λ b. cond b (Some one) (find (has_number n) earlier)) (ap (has_number n) here
          ∙ has),
    )

-- an element that has a number is the only one
only : (modes : List (List ℕ)) (n : ℕ) (earlier : List (ℕ × RangeRest)) (items : Items)
    (ranges : List (ℕ
    × RangeRest)) (position position' : ℕ) (value value' : Data) (range range' : ℕ × RangeRest)
    → ranges_from modes earlier items ≡ Ok ranges → are_disjoint earlier ≡ true
    → get_item position items ≡ Some value → range_in modes value ≡ Ok range
    → has_number n range ≡ true
    → get_item position' items ≡ Some value' → range_in modes value' ≡ Ok range'
    → has_number n range' ≡ true → position ≡ position'
only modes n earlier no_items ranges position position' value value' range range' is holds at read
    has
    at'
    read' has' = absurd (cc)
only modes n earlier (item first more) ranges zero zero value value' range range' is holds at read
    has at' read' has' = refl
only modes n earlier (item first more) ranges zero (suc position') value value' range range' is
    holds
    at read has at' read' has' =
    let s = step modes earlier first more ranges is holds in
    absurd (again modes n s.next more ranges position' value' range' s.rest s.holds
    (first_has modes n earlier first value s.range range s.next s.read (s.found n) at read has)
    at' read' has')
only modes n earlier (item first more) ranges (suc position) zero value value' range range' is holds
    at
    read has at' read' has' =
    let s = step modes earlier first more ranges is holds in
    absurd (again modes n s.next more ranges position value range s.rest s.holds
    (first_has modes n earlier first value' s.range range' s.next s.read (s.found n) at' read'
    has') at read has)
only modes n earlier (item first more) ranges (suc position) (suc position') value value' range
    range' is
    holds at read has at' read' has' =
    let s = step modes earlier first more ranges is holds in
    ap suc (only modes n s.next more ranges position position' value value' range range' s.rest
    s.holds
    at
    read has at' read' has')

-- ---- the laws
pub if_ok : {A : Type 0} (b : Bool) (o : OrFault A) (e : TableFault) (a : A)
    → (if b then o else Err e) ≡ Ok a → o ≡ Ok a
if_ok true o e a is = is
if_ok false o e a is = absurd (cc)

pub record AreRead (modes : List (List ℕ)) (tree : Members) (ranges : List (ℕ × RangeRest)) : Type
    0 where
  pub items : Items
  pub listed : get_member (codes "validators") tree ≡ Some (array items)
  pub read : ranges_from modes [] items ≡ Ok ranges

pub ranges_read : (modes : List (List ℕ)) (tree : Members) (ranges : List (ℕ × RangeRest))
    → ranges_of modes tree ≡ Ok ranges → AreRead modes tree ranges
unfolding ranges_of
ranges_read modes tree ranges is =
    let items = bind_ok _ _ _ is in
    record {
      items = items.0;
      listed = array-read (codes "validators") the_key.Validators tree items.0 items.1;
      read = if_ok (are_tables items.0) (ranges_from modes [] items.0) (Kind the_key.Validators)
          ranges items.2;
    }

found_says_if : {A : Type 0} (p : A → Bool) (b : Bool) (x y : A) (o : Option A) → p x ≡ b
    → (o ≡ Some y → p y ≡ true) → cond b (Some x) o ≡ Some y → p y ≡ true
found_says_if p true x y o is later at = let same : x ≡ y = cc in ap p (sym same) ∙ is
found_says_if p false x y o is later at = later at

-- what is found passes
found_says : {A : Type 0} (p : A → Bool) (xs : List A) (y : A) → find p xs ≡ Some y → p y ≡ true
found_says p [] y at = absurd (cc)
found_says p (x ∷ xs) y at = found_says_if p (p x) x y (find p xs) refl (found_says p xs y) at

-- a validator that an element has is one of the range that it reads as
agrees : (modes : List (List ℕ)) (element : Members) (range : ℕ × RangeRest) (validator : ℕ)
    → Reads modes (table element) range → HasValidator element validator
    → has_number validator range ≡ true
agrees modes element range validator r has =
    let whole : table element ≡ table r.element = r.is_table in
    let same : element ≡ r.element = cc in
    let at_first : Some (integer (pos has.first)) ≡ Some (integer (pos range.0)) =
    sym has.is_first ∙ ap (get_member (codes "first")) same ∙ r.first in
    let at_last : Some (integer (pos has.last)) ≡ Some (integer (pos range.1.last)) =
    sym has.is_last ∙ ap (get_member (codes "last")) same ∙ r.last in
    let first : has.first ≡ range.0 = cc in
    let last : has.last ≡ range.1.last = cc in
    let from : nat_le range.0 validator ≡ true = le-leb _ _ (omega (arith, first, has.from)) in
    let upto : nat_le validator range.1.last ≡ true = le-leb _ _ (omega (arith, last, has.upto)) in
    rw (from, upto) refl

-- and the other way round
has_it : (modes : List (List ℕ)) (value : Data) (range : ℕ
    × RangeRest) (validator : ℕ) (r : Reads modes value range) → has_number validator range ≡ true
    → HasValidator r.element validator
has_it modes value range validator r has =
    let both = and_parts (nat_le range.0 validator) (nat_le validator range.1.last) has in
    record {
      first = range.0;
      is_first = r.first;
      last = range.1.last;
      is_last = r.last;
      from = leb-true range.0 validator both.0;
      upto = leb-true validator range.1.last both.1;
    }

abbrev MapsTo : Option (ℕ × RangeRest) → ℕ → Type 0
MapsTo o mode = (range : ℕ × RangeRest) × (o ≡ Some range) × (range.1.mode ≡ mode)

maps : (o : Option (ℕ × RangeRest)) (mode : ℕ)
    → option_map (λ (range : ℕ × RangeRest). range.1.mode) o ≡ Some mode → MapsTo o mode
maps None mode is = absurd (cc)
maps (Some range) mode is = (range, refl, cc)

gives : (modes : List (List ℕ)) (tree : Members) (ranges : List (ℕ × RangeRest))
    (validator mode : ℕ)
    → AreRead modes tree ranges → MapsTo (range_at ranges validator) mode
    → RangeGives modes tree validator mode
gives modes tree ranges validator mode text at = ⊎_elim
    (λ none. absurd (cc (none)))
    (λ element.
    let r = reads modes element.1.0 at.0 element.1.2 in
    record {
      position = element.0;
      element = r.element;
      listed = record {
        items = text.items;
        listed = text.listed;
        holds = element.1.1 ∙ ap (λ (v : Data). Some v) r.is_table;
      };
      has = has_it modes element.1.0 at.0 validator r
          (found_says (has_number validator) ranges at.0 at.1);
      names = record {
        name = r.names.name;
        written = r.names.written;
        named = r.names.named ∙ ap (λ m. Ok m) at.2;
      };
    })
    (came modes validator [] text.items ranges at.0 text.read refl at.1)

-- an element that has the validator reads as the range that is found
pub record IsFound (modes : List (List ℕ)) (ranges : List (ℕ × RangeRest)) (validator : ℕ)
    (items : Items) (position : ℕ) (element : Members) : Type 0 where
  pub range : ℕ × RangeRest
  pub holds : get_item position items ≡ Some (table element)
  pub read : range_in modes (table element) ≡ Ok range
  pub has : has_number validator range ≡ true
  pub found : find (has_number validator) ranges ≡ Some range

is_found : (modes : List (List ℕ)) (tree : Members) (ranges : List (ℕ × RangeRest))
    (validator position : ℕ)
    (element : Members) (text : AreRead modes tree ranges) → HasRange tree position element
    → HasValidator element validator
    → IsFound modes ranges validator text.items position element
is_found modes tree ranges validator position element text listed has =
    let both : Some (array listed.items) ≡ Some (array text.items) =
    sym listed.listed ∙ text.listed in
    let same : listed.items ≡ text.items = cc in
    let holds : get_item position text.items ≡ Some (table element) =
    ap (get_item position) (sym same) ∙ listed.holds in
    let at = there modes validator [] text.items ranges position (table element) text.read refl
    holds in
    let here = agrees modes element at.0 validator (reads modes (table element) at.0 at.1) has in
    record { range = at.0; holds = holds; read = at.1; has = here; found = at.2 here }

is_given : (modes : List (List ℕ)) (tree : Members) (ranges : List (ℕ × RangeRest))
    (validator mode : ℕ)
    → AreRead modes tree ranges → RangeGives modes tree validator mode
    → option_map (λ (range : ℕ × RangeRest). range.1.mode) (range_at ranges validator) ≡ Some mode
is_given modes tree ranges validator mode text g =
    let f = is_found modes tree ranges validator g.position g.element text g.listed g.has in
    let r = reads modes (table g.element) f.range f.read in
    let whole : table g.element ≡ table r.element = r.is_table in
    let same : g.element ≡ r.element = cc in
    let texts : Some (string g.names.name) ≡ Some (string r.names.name) =
    sym g.names.written ∙ ap (get_member (codes "mode")) same ∙ r.names.written in
    let name : g.names.name ≡ r.names.name = cc in
    let modes_same : Ok mode ≡ Ok f.range.1.mode =
    sym g.names.named ∙ ap (mode_named modes) name ∙ r.names.named in
    let one : f.range.1.mode ≡ mode = cc in
    ap (option_map (λ (range : ℕ × RangeRest). range.1.mode)) f.found ∙ ap (λ (m : ℕ). Some m) one

pub mode-given : (tree : Members) (meaning : TableMeaning) (validator mode : ℕ)
    → meaning_of_tree tree ≡ Ok meaning
    → (mode_in meaning validator ≡ Some mode) ↔ RangeGives meaning.modes tree validator mode
mode-given tree meaning validator mode is =
    let text = ranges_read meaning.modes tree meaning.ranges
    (parts tree meaning is).ranges in (
      λ at. gives meaning.modes tree meaning.ranges validator mode text
          (maps (range_at meaning.ranges validator) mode at),
      λ g. is_given meaning.modes tree meaning.ranges validator mode text g,
    )

none_or_gives : (o : Option ℕ) → ((mode : ℕ) → o ≡ Some mode → ⊥) → o ≡ None
none_or_gives None none = refl
none_or_gives (Some mode) none = absurd (none mode refl)

maps_none : (o : Option (ℕ × RangeRest)) (range : ℕ × RangeRest) → o ≡ Some range
    → option_map (λ (range : ℕ × RangeRest). range.1.mode) o ≡ None → ⊥
maps_none o range is none = let no : Some range.1.mode ≡ None =
    sym (ap (option_map (λ (range : ℕ × RangeRest). range.1.mode)) is) ∙ none in absurd (cc)

pub mode-none : (tree : Members) (meaning : TableMeaning) (validator : ℕ)
    → meaning_of_tree tree ≡ Ok meaning
    → (mode_in meaning validator ≡ None) ↔ ((position : ℕ) → ¬ RangeHas tree validator position)
mode-none tree meaning validator is =
    let text = ranges_read meaning.modes tree meaning.ranges
    (parts tree meaning is).ranges in (
      λ none position e.
          let f = is_found meaning.modes tree meaning.ranges validator position e.element
          text
          e.listed e.has in
          maps_none (range_at meaning.ranges validator) f.range f.found none,
      λ none. none_or_gives (mode_in meaning validator) (λ mode at.
          let g = gives meaning.modes tree meaning.ranges validator mode text
          (maps (range_at meaning.ranges validator) mode at) in
          none g.position (record { element = g.element; listed = g.listed; has = g.has })),
    )

pub one-entry : (tree : Members) (meaning : TableMeaning) (validator position position' : ℕ)
    → meaning_of_tree tree ≡ Ok meaning
    → RangeHas tree validator position → RangeHas tree validator position' → position ≡ position'
one-entry tree meaning validator position position' is one other =
    let text = ranges_read meaning.modes tree meaning.ranges (parts tree meaning is).ranges in
    let f = is_found meaning.modes tree meaning.ranges validator position one.element text
    one.listed
    one.has in
    let g = is_found meaning.modes tree meaning.ranges validator position' other.element text
    other.listed
    other.has in
    only meaning.modes validator [] text.items meaning.ranges position position' (table one.element)
    (table other.element) f.range g.range text.read refl f.holds f.read f.has g.holds g.read
    g.has
