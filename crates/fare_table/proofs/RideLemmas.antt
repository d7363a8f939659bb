-- What a token pays for a ride on a mode, and what its rides give, is what its class of the text
-- says.
use Rattle.std.proofs.Common.{◌≡◌, ◌≢◌, ℕ, ◌*◌, ◌<◌, ◌≤◌, ◌&&◌, Bool, true, false, List, [], Option}
use Rattle.std.proofs.Common.{Some, None, Ok, Err, cond, refl, sym, ap, ◌∙◌, subst, inl, inr, arith}
use Rattle.std.proofs.Common.{codes, get_or, get_or-set_other, length, length-set, set, replicate}
use Rattle.std.proofs.Common.{zero-add}
use Rattle.fare_table.proofs.{ElementLemmas.if_ok, PartLemmas.bind_ok, PartLemmas.parts}
use Rattle.fare_table.proofs.PayLemmas.{AreClassParts, class_if, class_parts, classes_read}
use Rattle.fare_table.proofs.PayLemmas.{has_terms, position_found, placed, riders_read, same_ok}
use Rattle.fare_table.proofs.ReadLemmas.{is_number, is_number_or, is_table}
use Rattle.fare_table.proofs.RiderLemmas.{Named}
use Rattle.fare_table.specs.Classes.{fares_from, fares_of, position_of, ride_transfers_of, taps_of}
use Rattle.fare_table.specs.Members.{array_at, hold_numbers}
use Rattle.fare_table.specs.Modes.{are_distinct, are_mode_names, is_mode_name, modes_of}
use Rattle.fare_table.specs.{Modes.strings_from, OrFault.OrFault, Paying.AreTaps, Paying.Gives}
use Rattle.fare_table.specs.Paying.{HasTerms, IsClassOf, IsElementOf, IsFareOn, IsNumberOr, PaysOn}
use Rattle.fare_table.specs.{Paying.last_named, TableMeaning.meaning_of_tree}
use Rattle.fare_table.specs.declared.fault.TableFault.TheVariants.{Kind, Mode, Range}
use Rattle.std.proofs.lemmas.Bool.{and_parts, false≢true, leb-true, ltb-true}
use Rattle.std.proofs.lemmas.Grind.{get_or-set_at}
use Rattle.std.proofs.lemmas.List.{get_or-replicate, length-replicate, Sums.passes_at_first}
use Rattle.std.proofs.lemmas.{Map.Text.is_eq-slice_cmp, Option.get_or_from_slice_get}
use Rattle.std.specs.{List.list_all, List.position_or_len, Option.ok_or}
use Rattle.std.specs.Prelude.{nat_le, nat_lt, pos, position, if◌then◌else◌}
use Rattle.tariffs.proofs.ByteLemmas.{is_itself, same_bytes}
use Rattle.tariffs.specs.Fares.{class_at, class_of, no_class, ride_terms, transfer_terms}
use Rattle.tariffs.specs.{Names.same_name, TableMeaning.TableMeaning}
use Rattle.tariffs.specs.declared.{class.Class.Class, transfer_terms.TransferTerms.TransferTerms}
use Rattle.toml.specs.Data.{Data, Members, no_members, member, integer, get_member, string}
use Rattle.fare_table.specs.declared.fault.Key.TheVariants as the_key

-- ---- names of modes
same_by : (name key other : List ℕ) → same_name name other ≡ true → same_name key other ≡ true
    → name ≡ key
same_by name key other one two =
    same_bytes name other (is_eq-slice_cmp name other ∙ one)
    ∙ sym (same_bytes key other (is_eq-slice_cmp key other ∙ two))

-- the first name that passes the test stands at the place
record IsAt (test : List ℕ → Bool) (names : List (List ℕ)) (index : ℕ) : Type 0 where
  below : index < length names
  passes : test (get_or names index []) ≡ true

found_if : (b : Bool) (n index : ℕ) → cond b (Some n) None ≡ Some index → (b ≡ true) × (n ≡ index)
found_if true n index is = (refl, cc)
found_if false n index is = absurd (cc)

is_at : (test : List ℕ → Bool) (names : List (List ℕ)) (index : ℕ)
    → position test names ≡ Some index → IsAt test names index
is_at test names index is =
    let first = position_or_len test names in
    let found = found_if (nat_lt first (length names)) first index is in
    let below : first < length names = ltb-true first (length names) found.0 in
    record {
      below = subst (λ n. n < length names) found.1 below;
      passes = subst (λ n. test (get_or names n []) ≡ true) found.1
          (passes_at_first test names [] below);
    }

one_name : (names : List (List ℕ)) (name key : List ℕ) (index : ℕ)
    → position (same_name name) names ≡ Some index → position (same_name key) names ≡ Some index
    → name ≡ key
one_name names name key index one two =
    same_by name key (get_or names index []) (is_at (same_name name) names index one).passes
    (is_at (same_name key) names index two).passes

-- ---- the fares of a class
mode_found : (o : Option ℕ) (index : ℕ) → ok_or o Mode ≡ Ok index → o ≡ Some index
mode_found None index is = absurd (cc)
mode_found (Some p) index is = let same : p ≡ index = cc in ap (λ n. Some n) same

some_position : (one other : ℕ) → Some one ≡ Some other → one ≡ other
some_position one other is = cc

-- the key of a mode's name sets its fare, and another key leaves it
fare_if : (b : Bool) (modes : List (List ℕ)) (name key : List ℕ) (mode index own cents : ℕ)
    (fares : List ℕ) (found : Option Data) (value : Data) → same_name name key ≡ b
    → position (same_name name) modes ≡ Some mode → position (same_name key) modes ≡ Some index
    → mode < length fares → value ≡ integer (pos cents)
    → IsNumberOr own found (get_or fares mode 0)
    → IsNumberOr own (if b then Some value else found) (get_or (set fares index cents) mode 0)
fare_if true modes name key mode index own cents fares found value same at other below is has =
    let one : name ≡ key = same_bytes name key (is_eq-slice_cmp name key ∙ same) in
    let here : mode ≡ index =
    some_position mode index (sym at ∙ ap (λ (n : List ℕ). position (same_name n) modes) one
    ∙ other) in
    is ∙ ap (λ (n : ℕ). integer (pos n))
    (sym (get_or-set_at fares index mode cents 0 here (omega (arith, below, here))))
fare_if false modes name key mode index own cents fares found value apart at other below is has =
    let no : mode ≢ index =
    λ same. false≢true (sym apart
    ∙ ap (λ (k : List ℕ). same_name name k)
    (sym (one_name modes name key mode at (other ∙ ap (λ (n : ℕ). Some n) (sym same))))
    ∙ sym (is_eq-slice_cmp name name) ∙ is_itself name) in
    subst (λ (n : ℕ). IsNumberOr own found n) (sym (get_or-set_other fares index mode cents 0 no)) has

fare_named : (modes : List (List ℕ)) (name : List ℕ) (mode own : ℕ) (fares list : List ℕ)
    (found : Option Data) (named : Members) → position (same_name name) modes ≡ Some mode
    → mode < length fares → fares_from modes fares named ≡ Ok list
    → IsNumberOr own found (get_or fares mode 0)
    → IsNumberOr own (last_named name found named) (get_or list mode 0)
fare_named modes name mode own fares list found no_members at below is has =
    let same : fares ≡ list = cc in
    subst (λ (l : List ℕ). IsNumberOr own found (get_or l mode 0)) same has
fare_named modes name mode own fares list found (member key value more) at below is has =
    let index = bind_ok _ _ _ is in
    let cents = bind_ok _ _ _ index.2 in
    let next = set fares index.0 cents.0 in
    fare_named modes name mode own next list (if same_name name key then Some value else found) more
    at (omega (arith, below, length-set fares index.0 cents.0)) cents.2
    (fare_if (same_name name key) modes name key mode index.0 own cents.0 fares found value refl at
    (mode_found (position (same_name key) modes) index.0 index.1) below
    (is_number value the_key.Fares 0 100_000 cents.0 cents.1).is has)

fare_on : (modes : List (List ℕ)) (name : List ℕ) (mode own : ℕ) (o : Option Data)
    (list : List ℕ) → position (same_name name) modes ≡ Some mode → mode < 32
    → fares_of modes own o ≡ Ok list → IsFareOn own o name (get_or list mode 0)
fare_on modes name mode own None list at below is =
    let same : replicate 32 own ≡ list = cc in
    ap (λ (l : List ℕ). get_or l mode 0) (sym same) ∙ get_or-replicate 32 mode own 0 below
fare_on modes name mode own (Some value) list at below is =
    let named = bind_ok _ _ _ is in
    let numbers = bind_ok _ _ _ named.2 in
    let same : named.0 ≡ numbers.0 =
    same_ok named.0 numbers.0
    (if_ok (hold_numbers named.0) (Ok named.0) (Kind the_key.Fares) numbers.0 numbers.1) in
    let read = is_table value the_key.Fares named.0 named.1 in
    let long : mode < length (replicate 32 own) = omega (arith, below, length-replicate 32 own) in (
      named.0,
      read,
      fare_named modes name mode own (replicate 32 own) list None named.0 at long
          (ap (fares_from modes (replicate 32 own)) same ∙ numbers.2)
          (get_or-replicate 32 mode own 0 below),
    )

-- ---- how many modes there are
names_if : (b : Bool) (names modes : List (List ℕ))
    → (if b then Ok names else Err (Range the_key.Modes)) ≡ Ok modes → (b ≡ true) × (names ≡ modes)
names_if true names modes is = (refl, cc)
names_if false names modes is = absurd (cc)

modes_few : (tree : Members) (modes : List (List ℕ)) → modes_of tree ≡ Ok modes
    → length modes ≤ 32
unfolding modes_of
modes_few tree modes is =
    let items = bind_ok (array_at (codes "modes") the_key.Modes tree) _ _ is in
    let names = bind_ok (strings_from [] items.0) _ _ items.2 in
    let valid = names_if (are_mode_names names.0) names.0 modes names.2 in
    let low = nat_le 1 (length names.0) in
    let high = nat_le (length names.0) 32 in
    let words = list_all is_mode_name names.0 in
    let front = and_parts (low && high && words) (are_distinct names.0) valid.0 in
    let counts = and_parts (low && high) words front.0 in
    let few : length names.0 ≤ 32 = leb-true (length names.0) 32 (and_parts low high counts.0).1 in
    subst (λ (n : List (List ℕ)). length n ≤ 32) valid.1 few

-- ---- what rides give
are_taps : (o : Option Data) (n : ℕ) → taps_of o ≡ Ok n → AreTaps o n
are_taps None n is = let same : 1 ≡ n = cc in sym same
are_taps (Some (integer z)) n is =
    inl (is_number (integer z) the_key.RideTransfers 0 9 n is).is
are_taps (Some (string text)) n is = by (same_name text (codes "any")) refl is
  where
    by : (b : Bool) → same_name text (codes "any") ≡ b
        → (if b then Ok 255 else Err (Kind the_key.RideTransfers)) ≡ Ok n
        → AreTaps (Some (string text)) n
    by true named is =
        inr (
          ap string (same_bytes text (codes "any") (is_eq-slice_cmp text (codes "any") ∙ named)),
          let same : 255 ≡ n = cc in sym same,
        )
    by false named is = absurd (cc)
are_taps (Some _) n is = absurd (cc)

abbrev given_by : ℕ → ℕ → TransferTerms
given_by taps minutes = record { taps = taps; time = minutes * 60_000 }

abbrev by_minutes : ℕ → ℕ → OrFault TransferTerms
by_minutes taps minutes = Ok (given_by taps minutes)

-- the number of taps and of minutes that the keys of a class say
record AreGiven (element : Members) (given : TransferTerms) : Type 0 where
  taps : AreTaps (get_member (codes "transfers") element) given.taps
  minutes : ℕ
  counted : IsNumberOr 120 (get_member (codes "transfer_minutes") element) minutes
  time : given.time ≡ minutes * 60_000

same_given : (element : Members) (taps minutes : ℕ) (given : TransferTerms)
    → by_minutes taps minutes ≡ Ok given → AreGiven element (given_by taps minutes)
    → AreGiven element given
same_given element taps minutes given is has =
    let same : given_by taps minutes ≡ given = cc in
    subst (λ (t : TransferTerms). AreGiven element t) same has

are_given : (element : Members) (given : TransferTerms) → ride_transfers_of element ≡ Ok given
    → AreGiven element given
unfolding ride_transfers_of
are_given element given is =
    let o = get_member (codes "transfers") element in
    let o' = get_member (codes "transfer_minutes") element in
    let taps = bind_ok _ _ _ is in
    let minutes = bind_ok _ _ _ taps.2 in
    same_given element taps.0 minutes.0 given minutes.2
    (record {
      taps = are_taps o taps.0 taps.1;
      minutes = minutes.0;
      counted = is_number_or o' the_key.TransferMinutes 120 1 1_440 minutes.0 minutes.1;
      time = refl;
    })

-- ---- the class of a token
record IsTokenClass (tree : Members) (meaning : TableMeaning) (token : List ℕ) : Type 0 where
  class : List ℕ
  is : IsClassOf tree token class
  element : Members
  keys : IsElementOf tree class element
  reads : AreClassParts meaning.modes meaning.cap_names element
      (class_at meaning (class_of meaning token))
  has : HasTerms tree class (class_at meaning (class_of meaning token)).terms

token_class : (tree : Members) (meaning : TableMeaning) (token : List ℕ)
    → meaning_of_tree tree ≡ Ok meaning → IsTokenClass tree meaning token
token_class tree meaning token is =
    let p = parts tree meaning is in
    let index = class_of meaning token in
    let h = class_if tree p.table meaning token (Named token meaning.riders) p.standard
    (riders_read p.table tree meaning.riders p.riders) refl in
    let there = placed meaning.modes meaning.cap_names [] meaning.classes h.class p.table index
    index p.classes
    (position_found (position_of h.class p.table) index h.named) (sym (zero-add index)) in
    let element = bind_ok _ _ _ there.has.read in
    let same : there.one ≡ class_at meaning index =
    sym (get_or_from_slice_get meaning.classes index there.one no_class there.at) in
    record {
      class = h.class;
      is = h.is;
      element = element.0;
      keys = record {
        classes = p.table;
        listed = classes_read tree p.table p.members;
        holds = there.has.holds ∙ ap (λ (d : Data). Some d)
            (is_table there.has.value the_key.Classes element.0 element.1);
      };
      reads = subst (λ (c : Class). AreClassParts meaning.modes meaning.cap_names element.0 c) same
          (class_parts meaning.modes meaning.cap_names element.0 there.one element.2);
      has = has_terms meaning.modes meaning.cap_names tree p.table meaning.classes h.class index
          p.members p.classes h.named;
    }

-- ---- the laws
pub pays-on : (tree : Members) (meaning : TableMeaning) (token name : List ℕ) (mode : ℕ)
    → meaning_of_tree tree ≡ Ok meaning
    → position (same_name name) meaning.modes ≡ Some mode
    → PaysOn tree token name (ride_terms meaning (class_of meaning token) mode)
pays-on tree meaning token name mode is at =
    let modes = meaning.modes in
    let t = token_class tree meaning token is in
    let one = class_at meaning (class_of meaning token) in
    let first = (is_at (same_name name) modes mode at).below in
    let few = modes_few tree modes (parts tree meaning is).modes in
    let below : mode < 32 = omega (arith, first, few) in
    record {
      class = t.class;
      is = t.is;
      element = t.element;
      keys = t.keys;
      own = one.terms;
      has = t.has;
      fare = fare_on modes name mode one.terms.fare (get_member (codes "fares") t.element) one.fares
          at below t.reads.fares;
      rides = refl;
      ceiling = refl;
    }

pub rides-give : (tree : Members) (meaning : TableMeaning) (token : List ℕ)
    → meaning_of_tree tree ≡ Ok meaning
    → Gives tree token (transfer_terms meaning (class_of meaning token))
rides-give tree meaning token is =
    let t = token_class tree meaning token is in
    let g = are_given t.element (transfer_terms meaning (class_of meaning token))
    t.reads.transfers in
    record {
      class = t.class;
      is = t.is;
      element = t.element;
      keys = t.keys;
      taps = g.taps;
      minutes = g.minutes;
      counted = g.counted;
      time = g.time;
    }
