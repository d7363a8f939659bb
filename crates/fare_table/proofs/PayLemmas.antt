-- What a token pays is what the text's class of the key that names it says, else the default class.
use Rattle.std.proofs.Common.{◌≡◌, ◌⊎◌, ◌↔◌, ℕ, Bool, true, false, List, [], ◌∷◌, Option, Some}
use Rattle.std.proofs.Common.{None, Ok, Err, cond, refl, sym, ap, ◌∙◌, subst, inl, inr, ⊎_elim}
use Rattle.std.proofs.Common.{codes, zero-add, ◌++◌, ◌+◌, length, suc, zero, option_map, arith}
use Rattle.fare_table.proofs.{ElementLemmas.if_ok, KeyLemmas.choice, KeyLemmas.member-later}
use Rattle.fare_table.proofs.PartLemmas.{bind_ok, parts}
use Rattle.fare_table.proofs.ReadLemmas.{is_number_or, is_table, number-read, table-read, text-read}
use Rattle.fare_table.proofs.RiderLemmas.{Came, Named, came, one_key, there}
use Rattle.fare_table.specs.Classes.{ceilings_of, class_in, class_named, class_of, classes_from}
use Rattle.fare_table.specs.Classes.{own_ceiling, classes_of, default_of, fares_of, is_empty}
use Rattle.fare_table.specs.Classes.{position_of, terms_of, ride_transfers_of}
use Rattle.fare_table.specs.{Members.hold_strings, Members.hold_tables, OrFault.OrFault}
use Rattle.fare_table.specs.Paying.{HasTerms, IsClassOf, IsNumberOr, NamesRider, Pays}
use Rattle.fare_table.specs.Riders.{riders_from, riders_at, riders_of}
use Rattle.fare_table.specs.{TableMeaning.meaning_of_tree, declared.fault.TableFault.TableFault}
use Rattle.fare_table.specs.declared.fault.TableFault.TheVariants.{Kind, Range, Rider}
use Rattle.std.proofs.lemmas.{Bool.cases_Bool, Map.Text.is_eq-slice_cmp}
use Rattle.std.proofs.lemmas.Option.{get_or_from_slice_get}
use Rattle.std.specs.{Cmp.Lexicographic.slice_cmp, Option.ok_or, Option.unwrap_or, Ordering.nat_cmp}
use Rattle.std.specs.Prelude.{pos, if◌then◌else◌, slice_get, slice_index_or}
use Rattle.tariffs.specs.Fares.{class_of as class_of_token, no_class, terms_at}
use Rattle.tariffs.specs.{Names.same_name, TableMeaning.TableMeaning, declared.class.Class.Class}
use Rattle.tariffs.specs.declared.{terms.Terms.Terms, transfer_terms.TransferTerms.TransferTerms}
use Rattle.toml.specs.Data.{Data, Members, no_members, member, string, integer, table, get_member}
use Rattle.fare_table.specs.declared.fault.Key.TheVariants as the_key

-- ---- the terms of a class
abbrev pub terms_by : ℕ → ℕ → ℕ → Terms
terms_by fare rides ceiling = record { fare = fare; rides = rides; ceiling = ceiling }

abbrev by_ceiling : ℕ → ℕ → ℕ → OrFault Terms
by_ceiling fare rides ceiling = Ok (terms_by fare rides ceiling)

-- the class of this name is in the table, and its element has these terms
pub record IsNamed (classes : Members) (class : List ℕ) (terms : Terms) : Type 0 where
  pub element : Members
  pub holds : get_member class classes ≡ Some (table element)
  pub fare : get_member (codes "fare") element ≡ Some (integer (pos terms.fare))
  pub rides : IsNumberOr 60_000 (get_member (codes "rides") element) terms.rides
  pub ceiling : IsNumberOr (own_ceiling terms.rides terms.fare)
      (get_member (codes "ceiling") element) terms.ceiling

moved : (classes : Members) (class : List ℕ) (fare rides ceiling : ℕ) (terms : Terms)
    → by_ceiling fare rides ceiling ≡ Ok terms → IsNamed classes class (terms_by fare rides ceiling)
    → IsNamed classes class terms
moved classes class fare rides ceiling terms is has =
    let same : terms_by fare rides ceiling ≡ terms = cc in
    subst (λ (t : Terms). IsNamed classes class t) same has

entry_terms : (classes element : Members) (class : List ℕ) (terms : Terms)
    → get_member class classes ≡ Some (table element) → terms_of element ≡ Ok terms
    → IsNamed classes class terms
unfolding terms_of
entry_terms classes element class terms holds is =
    let named = get_member (codes "rides") element in
    let cap = get_member (codes "ceiling") element in
    let fare = bind_ok _ _ _ is in
    let rides = bind_ok _ _ _ fare.2 in
    let own = own_ceiling rides.0 fare.0 in
    let ceiling = bind_ok _ _ _ rides.2 in
    moved classes class fare.0 rides.0 ceiling.0 terms ceiling.2
    (record {
      element = element;
      holds = holds;
      fare = (number-read (codes "fare") the_key.Fare 0 100_000 element fare.0 fare.1).is;
      rides = is_number_or named the_key.Rides 60_000 1 1_000 rides.0 rides.1;
      ceiling = is_number_or cap the_key.Ceiling own 1 100_000_000 ceiling.0 ceiling.1;
    })

-- the member of this name reads as the class
pub record HasClass (modes caps : List (List ℕ)) (classes : Members) (name : List ℕ)
    (one : Class) : Type
    0 where
  pub value : Data
  pub holds : get_member name classes ≡ Some value
  pub read : class_in modes caps value ≡ Ok one

abbrev class_by : Terms → List ℕ → List ℕ → TransferTerms → Class
class_by terms fares ceilings transfers =
    record { terms = terms; fares = fares; caps = ceilings; transfers = transfers }

abbrev by_transfers : Terms → List ℕ → List ℕ → TransferTerms → OrFault Class
by_transfers terms fares ceilings transfers = Ok (class_by terms fares ceilings transfers)

-- the parts of a class, as each key of its element gives them
pub record AreClassParts (modes caps : List (List ℕ)) (element : Members) (one : Class)
    : Type 0 where
  pub terms : terms_of element ≡ Ok one.terms
  pub fares : fares_of modes one.terms.fare (get_member (codes "fares") element) ≡ Ok one.fares
  pub ceilings : ceilings_of caps (get_member (codes "caps") element) ≡ Ok one.caps
  pub transfers : ride_transfers_of element ≡ Ok one.transfers

same_class_parts : (modes caps : List (List ℕ)) (element : Members) (one other : Class)
    → by_transfers one.terms one.fares one.caps one.transfers ≡ Ok other
    → AreClassParts modes caps element one → AreClassParts modes caps element other
same_class_parts modes caps element one other is has =
    let same : one ≡ other = cc in
    subst (λ (c : Class). AreClassParts modes caps element c) same has

pub class_parts : (modes caps : List (List ℕ)) (element : Members) (one : Class)
    → class_of modes caps element ≡ Ok one → AreClassParts modes caps element one
unfolding class_of
class_parts modes caps element one is =
    let terms = bind_ok _ _ _ is in
    let fares = bind_ok _ _ _ terms.2 in
    let ceilings = bind_ok _ _ _ fares.2 in
    let transfers = bind_ok _ _ _ ceilings.2 in
    same_class_parts modes caps element (class_by terms.0 fares.0 ceilings.0 transfers.0) one
    transfers.2 (record {
      terms = terms.1;
      fares = fares.1;
      ceilings = ceilings.1;
      transfers = transfers.1;
    })

named_terms : (modes caps : List (List ℕ)) (classes : Members) (name : List ℕ) (one : Class)
    → HasClass modes caps classes name one → IsNamed classes name one.terms
named_terms modes caps classes name one has =
    let element = bind_ok _ _ _ has.read in
    entry_terms classes element.0 name one.terms (has.holds
    ∙ ap (λ (d : Data). Some d) (is_table has.value the_key.Classes element.0 element.1))
    (class_parts modes caps element.0 one element.2).terms

pub if_else : {A : Type 0} (b : Bool) (o : OrFault A) (e : TableFault) (a : A)
    → (if b then Err e else o) ≡ Ok a → o ≡ Ok a
if_else true o e a is = absurd (cc)
if_else false o e a is = is

abbrev sound : Members → OrFault Members
sound classes = Ok classes

pub same_ok : (one other : Members) → sound one ≡ sound other → one ≡ other
same_ok one other is = cc

pub classes_read : (tree classes : Members) → classes_of tree ≡ Ok classes
    → get_member (codes "classes") tree ≡ Some (table classes)
unfolding classes_of
classes_read tree classes is =
    let read = bind_ok _ _ _ is in
    let tables = bind_ok _ _ _ read.2 in
    let one : read.0 ≡ tables.0 =
    same_ok read.0 tables.0
    (if_ok (hold_tables read.0) (Ok read.0) (Kind the_key.Classes) tables.0 tables.1) in
    let two : tables.0 ≡ classes =
    same_ok tables.0 classes
    (if_else (is_empty tables.0) (Ok tables.0) (Range the_key.Classes) classes tables.2) in
    table-read (codes "classes") the_key.Classes tree read.0 read.1
    ∙ ap (λ (m : Members). Some (table m)) (one ∙ two)

-- the classes of the list, each of its member
kept-class : (modes caps : List (List ℕ)) (n : ℕ) (earlier list : List Class) (one : Class)
    (part : Members) → classes_from modes caps earlier part ≡ Ok list
    → slice_get earlier n ≡ Some one → slice_get list n ≡ Some one
kept-class modes caps n earlier list one no_members is at =
    let same : earlier ≡ list = cc in ap (λ l. slice_get l n) (sym same) ∙ at
kept-class modes caps n earlier list one (member key value more) is at =
    let first = bind_ok (class_in modes caps value) _ _ is in
    kept-class modes caps n (earlier ++ first.0 ∷ []) list one more first.2
    (within n earlier first.0 one at)
  where
    within : (n : ℕ) (xs : List Class) (x one : Class) → slice_get xs n ≡ Some one
        → slice_get (xs ++ x ∷ []) n ≡ Some one
    within n [] x one at = absurd (cc)
    within zero (y ∷ ys) x one at = at
    within (suc n) (y ∷ ys) x one at = within n ys x one at

at_end : (earlier : List Class) (one : Class) (n : ℕ) → n ≡ length earlier
    → slice_get (earlier ++ one ∷ []) n ≡ Some one
at_end [] one n is = rw is refl
at_end (first ∷ earlier) one n is = rw is (at_end earlier one (length earlier) refl)

-- where the class of a name stands in the list
pub record IsPlaced (modes caps : List (List ℕ)) (list : List Class) (position : ℕ)
    (classes : Members)
    (name : List ℕ) : Type 0 where
  pub one : Class
  pub at : slice_get list position ≡ Some one
  pub has : HasClass modes caps classes name one

pub placed : (modes caps : List (List ℕ)) (earlier list : List Class) (name : List ℕ)
    (part : Members) (position there : ℕ) → classes_from modes caps earlier part ≡ Ok list
    → position_of name part ≡ Some position → there ≡ length earlier + position
    → IsPlaced modes caps list there part name
placed modes caps earlier list name no_members position there is at same = absurd (cc)
placed modes caps earlier list name (member key value more) position there is at same =
    let first = bind_ok _ _ _ is in
    elim (cases_Bool (same_name name key)) [
      | inl here ↦
          let zero_position : position ≡ 0 = first_position (rw here at at) in
          record {
            one = first.0;
            at = kept-class modes caps there (earlier ++ first.0 ∷ []) list first.0 more first.2
                (at_end earlier first.0 there (omega (arith, same, zero_position)));
            has = record {
              value = value;
              holds = choice (slice_cmp nat_cmp name key) (get_member name more) value
                  ∙ ap (λ b. cond b (Some value) (get_member name more))
                  (is_eq-slice_cmp name key ∙ here);
              read = first.1;
            };
          }
      | inr other ↦
          let next = later_position (position_of name more) position (rw other at at) in
          let rest = placed modes caps (earlier ++ first.0 ∷ []) list name more next.0 there first.2
          next.1
          (omega (arith, same, next.2, length-append-one earlier first.0)) in
          record {
            one = rest.one;
            at = rest.at;
            has = record {
              value = rest.has.value;
              holds = member-later name key value more (is_eq-slice_cmp name key ∙ other)
                  ∙ rest.has.holds;
              read = rest.has.read;
            };
          }
    ]
  where
    first_position : {p : ℕ} → Some 0 ≡ Some p → p ≡ 0
    first_position is = cc

    later_position : (o : Option ℕ) (p : ℕ) → option_map suc o ≡ Some p
        → (n : ℕ) × (o ≡ Some n) × (p ≡ suc n)
    later_position None p is = absurd (cc)
    later_position (Some n) p is = (n, refl, cc)

    length-append-one : (xs : List Class) (x : Class) → length (xs ++ x ∷ []) ≡ suc (length xs)
    length-append-one [] x = refl
    length-append-one (y ∷ ys) x = ap suc (length-append-one ys x)

pub position_found : (o : Option ℕ) (position : ℕ) → ok_or o Rider ≡ Ok position → o ≡ Some position
position_found None position is = absurd (cc)
position_found (Some p) position is = let same : p ≡ position = cc in ap (λ n. Some n) same

-- the class of this name has the terms in the text too
pub has_terms : (modes caps : List (List ℕ)) (tree classes : Members) (list : List Class)
    (class : List ℕ)
    (position : ℕ) → classes_of tree ≡ Ok classes → classes_from modes caps [] classes ≡ Ok list
    → class_named classes class ≡ Ok position
    → HasTerms tree class (slice_index_or list position no_class).terms
has_terms modes caps tree classes list class position read listed is =
    let p = placed modes caps [] list class classes position position listed
    (position_found (position_of class classes) position is) (sym (zero-add position)) in
    let n = named_terms modes caps classes class p.one p.has in
    let same : p.one ≡ slice_index_or list position no_class =
    sym (get_or_from_slice_get list position p.one no_class p.at) in
    subst (λ (c : Class). HasTerms tree class c.terms) same (record {
      classes = classes;
      listed = classes_read tree classes read;
      element = n.element;
      holds = n.holds;
      fare = n.fare;
      rides = n.rides;
      ceiling = n.ceiling;
    })

-- ---- one class has one terms
number_of : (o : Option Data) (n m : ℕ) → o ≡ Some (integer (pos n)) → o ≡ Some (integer (pos m))
    → n ≡ m
number_of o n m one two = let both : Some (integer (pos n)) ≡ Some (integer (pos m)) =
    sym one ∙ two in cc

table_of : (o : Option Data) (n m : Members) → o ≡ Some (table n) → o ≡ Some (table m) → n ≡ m
table_of o n m one two = let both : Some (table n) ≡ Some (table m) = sym one ∙ two in cc

number_or_of : (default : ℕ) (o : Option Data) (n m : ℕ) → IsNumberOr default o n
    → IsNumberOr default o m → n ≡ m
number_or_of default None n m one two = one ∙ sym two
number_or_of default (Some value) n m one two = let both : integer (pos n) ≡ integer (pos m) =
    sym one ∙ two in cc

all_same : (fare fare' rides rides' ceiling ceiling' : ℕ) → fare ≡ fare' → rides ≡ rides'
    → ceiling ≡ ceiling' → terms_by fare rides ceiling ≡ terms_by fare' rides' ceiling'
all_same fare fare' rides rides' ceiling ceiling' one two three = cc

one_terms : (tree : Members) (class : List ℕ) (terms terms' : Terms) → HasTerms tree class terms
    → HasTerms tree class terms' → terms ≡ terms'
one_terms tree class terms terms' one two =
    let classes = table_of (get_member (codes "classes") tree) one.classes two.classes one.listed
    two.listed in
    let element = table_of (get_member class two.classes) one.element two.element
    (ap (get_member class) (sym classes) ∙ one.holds) two.holds in
    let fare = number_of (get_member (codes "fare") two.element) terms.fare terms'.fare
    (ap (get_member (codes "fare")) (sym element) ∙ one.fare) two.fare in
    let rides = number_or_of 60_000 (get_member (codes "rides") two.element) terms.rides
    terms'.rides
    (subst (λ (e : Members). IsNumberOr 60_000 (get_member (codes "rides") e) terms.rides) element
    one.rides) two.rides in
    let own : own_ceiling terms.rides terms.fare ≡ own_ceiling terms'.rides terms'.fare =
    ap (λ n. own_ceiling n terms.fare) rides ∙ ap (λ n. own_ceiling terms'.rides n) fare in
    let same_own : IsNumberOr (own_ceiling terms'.rides terms'.fare)
    (get_member (codes "ceiling") one.element) terms.ceiling =
    subst (λ p. IsNumberOr p (get_member (codes "ceiling") one.element) terms.ceiling) own
    one.ceiling in
    let same_entry : IsNumberOr (own_ceiling terms'.rides terms'.fare)
    (get_member (codes "ceiling") two.element) terms.ceiling = subst (λ (e : Members).
    IsNumberOr (own_ceiling terms'.rides terms'.fare) (get_member (codes "ceiling") e)
    terms.ceiling) element same_own in
    let ceiling = number_or_of (own_ceiling terms'.rides terms'.fare)
    (get_member (codes "ceiling") two.element)
    terms.ceiling terms'.ceiling same_entry two.ceiling in
    all_same terms.fare terms'.fare terms.rides terms'.rides terms.ceiling terms'.ceiling fare rides
    ceiling

-- the riders are those of the text's key, or none if it has no such key
unfoldable pub AreRiders : Members → Option Data → List (List ℕ × ℕ) → Type 0
AreRiders classes o riders =
    ((o ≡ None) × (riders ≡ []))
    ⊎ ((text : Members) × (o ≡ Some (table text)) × (riders_from classes [] text ≡ Ok riders))

are_riders : (classes : Members) (o : Option Data) (riders : List (List ℕ × ℕ))
    → riders_at classes o ≡ Ok riders → AreRiders classes o riders
unfolding AreRiders
are_riders classes None riders is = let same : [] ≡ riders = cc in inl (refl, sym same)
are_riders classes (Some value) riders is =
    let text = bind_ok _ _ _ is in
    inr (
      text.0,
      ap (λ (d : Data). Some d) (is_table value the_key.Riders text.0 text.1),
      if_ok (hold_strings text.0) (riders_from classes [] text.0) (Kind the_key.Riders) riders
          text.2,
    )

pub riders_read : (classes tree : Members) (riders : List (List ℕ × ℕ))
    → riders_of classes tree ≡ Ok riders
    → AreRiders classes (get_member (codes "riders") tree) riders
unfolding riders_of
riders_read classes tree riders is = are_riders classes (get_member (codes "riders") tree) riders is

-- of a key that names a token, the riders are read from its table
named_from : (classes tree : Members) (riders : List (List ℕ × ℕ)) (token key class : List ℕ)
    → AreRiders classes (get_member (codes "riders") tree) riders
    → (n : NamesRider tree token key class)
    → riders_from classes [] n.riders ≡ Ok riders
unfolding AreRiders
named_from classes tree riders token key class are n = ⊎_elim
    (λ none. let no : None ≡ Some (table n.riders) = sym none.0 ∙ n.listed in absurd (cc (no)))
    (λ some.
    let same : some.0 ≡ n.riders =
    table_of (get_member (codes "riders") tree) some.0 n.riders some.1 n.listed in
    ap (riders_from classes []) (sym same) ∙ some.2)
    are

-- a key names the token of a rider that is found
came_from : (classes tree : Members) (riders : List (List ℕ × ℕ)) (token : List ℕ)
    (terms : ℕ) → AreRiders classes (get_member (codes "riders") tree) riders
    → Named token riders ≡ Some terms
    → (key : List ℕ) × (class : List ℕ) × NamesRider tree token key class
    × (class_named classes class ≡ Ok terms)
unfolding AreRiders
came_from classes tree riders token terms are at = ⊎_elim
    (λ none. let no : None ≡ Some terms = ap (Named token) (sym none.1) ∙ at in absurd (cc (no)))
    (λ some. ⊎_elim
    (λ before. absurd (cc (before)))
    (λ (c : Came classes token some.0 terms). (
      c.key,
      c.class,
      record {
        riders = some.0;
        listed = some.1;
        holds = c.at;
        named = c.named;
      },
      c.has,
    ))
    (came classes token [] some.0 riders terms some.2 at))
    are

default_named : (classes tree : Members) (terms : ℕ) → default_of classes tree ≡ Ok terms
    → (class : List ℕ) × (get_member (codes "default_class") tree ≡ Some (string class))
    × (class_named classes class ≡ Ok terms)
unfolding default_of
default_named classes tree terms is =
    let name = bind_ok _ _ _ is in
    (name.0, text-read (codes "default_class") the_key.DefaultClass tree name.0 name.1, name.2)

-- the class by which a token pays, and its place
pub record HasClassOf (tree classes : Members) (token : List ℕ) (position : ℕ) : Type 0 where
  pub class : List ℕ
  pub is : IsClassOf tree token class
  pub named : class_named classes class ≡ Ok position

pub class_if : (tree classes : Members) (meaning : TableMeaning) (token : List ℕ) (o : Option ℕ)
    → default_of classes tree ≡ Ok meaning.standard
    → AreRiders classes (get_member (codes "riders") tree) meaning.riders
    → Named token meaning.riders ≡ o
    → HasClassOf tree classes token (unwrap_or o meaning.standard)
class_if tree classes meaning token None standard are at =
    let d = default_named classes tree meaning.standard standard in
    record {
      class = d.0;
      is = inr (
        d.1,
        λ key other n.
            let t = there classes token [] n.riders meaning.riders key other
            (named_from classes tree meaning.riders token key other are n) n.holds n.named in
            let no : None ≡ Some t.0 = sym at ∙ t.2 in
            absurd (cc (no)),
      );
      named = d.2;
    }
class_if tree classes meaning token (Some position) standard are at =
    let c = came_from classes tree meaning.riders token position are at in
    record { class = c.1; is = inl (c.0, c.2); named = c.3 }

pays : (tree : Members) (meaning : TableMeaning) (token : List ℕ)
    → meaning_of_tree tree ≡ Ok meaning
    → Pays tree token (terms_at meaning token)
pays tree meaning token is =
    let p = parts tree meaning is in
    let h = class_if tree p.table meaning token (Named token meaning.riders) p.standard
    (riders_read p.table tree meaning.riders p.riders) refl in
    record {
      class = h.class;
      is = h.is;
      has = has_terms meaning.modes meaning.cap_names tree p.table meaning.classes h.class
          (class_of_token meaning token) p.members p.classes h.named;
    }

pub one-key : (tree : Members) (meaning : TableMeaning) (token key key' class class' : List ℕ)
    → meaning_of_tree tree ≡ Ok meaning
    → NamesRider tree token key class → NamesRider tree token key' class' → key ≡ key'
one-key tree meaning token key key' class class' is one two =
    let p = parts tree meaning is in
    let are = riders_read p.table tree meaning.riders p.riders in
    let same : one.riders ≡ two.riders =
    table_of (get_member (codes "riders") tree) one.riders two.riders one.listed two.listed in
    one_key p.table token [] two.riders meaning.riders key key' class class'
    (named_from p.table tree meaning.riders token key' class' are two)
    (ap (get_member key) (sym same) ∙ one.holds) one.named two.holds two.named

text_of : (o : Option Data) (n m : List ℕ) → o ≡ Some (string n) → o ≡ Some (string m) → n ≡ m
text_of o n m one two = let both : Some (string n) ≡ Some (string m) = sym one ∙ two in cc

-- a token pays by one class
one_class : (tree : Members) (meaning : TableMeaning) (token class class' : List ℕ)
    → meaning_of_tree tree ≡ Ok meaning → IsClassOf tree token class → IsClassOf tree token class'
    → class ≡ class'
one_class tree meaning token class class' is (inl one) (inl two) =
    let key = one-key tree meaning token one.0 two.0 class class' is one.1 two.1 in
    let same : one.1.riders ≡ two.1.riders =
    table_of (get_member (codes "riders") tree) one.1.riders two.1.riders one.1.listed
    two.1.listed in
    text_of (get_member two.0 two.1.riders) class class'
    (ap (λ (m : Members). get_member two.0 m) (sym same)
    ∙ ap (λ k. get_member k one.1.riders) (sym key) ∙ one.1.holds) two.1.holds
one_class tree meaning token class class' is (inl one) (inr two) = absurd (two.1 one.0 class one.1)
one_class tree meaning token class class' is (inr one) (inl two) = absurd (one.1 two.0 class' two.1)
one_class tree meaning token class class' is (inr one) (inr two) =
    text_of (get_member (codes "default_class") tree) class class' one.0 two.0

pub pays-terms : (tree : Members) (meaning : TableMeaning) (token : List ℕ) (terms : Terms)
    → meaning_of_tree tree ≡ Ok meaning
    → (terms_at meaning token ≡ terms) ↔ Pays tree token terms
pays-terms tree meaning token terms is =
    let p = pays tree meaning token is in (
      λ same. subst (λ (t : Terms). Pays tree token t) same p,
      λ other.
          let class = one_class tree meaning token p.class other.class is p.is other.is in
          one_terms tree other.class (terms_at meaning token) terms
          (subst (λ c. HasTerms tree c (terms_at meaning token)) class p.has) other.has,
    )
