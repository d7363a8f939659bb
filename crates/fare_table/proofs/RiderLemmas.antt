-- The riders of a text, one after another: which key names a rider, and that one key does.
use Rattle.std.proofs.Common.{◌≡◌, ◌⊎◌, ℕ, Bool, true, false, List, [], ◌∷◌, Option, Some, Ok, Err}
use Rattle.std.proofs.Common.{cond, refl, sym, ap, ◌∙◌, inl, inr, ⊎_elim, Ordering, Less, Equal}
use Rattle.std.proofs.Common.{Greater}
use Rattle.fare_table.proofs.KeyLemmas.{member-here, member-later, member-found}
use Rattle.fare_table.proofs.{PartLemmas.bind_ok, ReadLemmas.is_text}
use Rattle.fare_table.specs.{Classes.class_named, OrFault.OrFault}
use Rattle.fare_table.specs.Riders.{is_rider, rider_of, riders_from, token_of_digits, with_rider}
use Rattle.fare_table.specs.declared.fault.TableFault.TheVariants.{Rider}
use Rattle.std.proofs.lemmas.Bool.{cases_Bool, false≢true}
use Rattle.std.specs.{BTreeMap.insert_entry, BTreeMap.is_at, Cmp.Equal-is}
use Rattle.std.specs.{Cmp.Lexicographic.slice_cmp, Map.lookup, Option.is_some, Ordering.is_eq}
use Rattle.std.specs.{Ordering.match_ordering, Ordering.nat_cmp, Prelude.if◌then◌else◌}
use Rattle.tap_views.proofs.Choices.{cond_swap}
use Rattle.tariffs.proofs.ByteLemmas.{is_itself, same_bytes}
use Rattle.toml.specs.Data.{Data, Members, no_members, member, string, get_member}
use Rattle.fare_table.specs.declared.fault.Key.TheVariants as the_key

abbrev pub Named : List ℕ → List (List ℕ × ℕ) → Option ℕ
Named token riders = lookup (is_at (slice_cmp nat_cmp token)) riders

one_of : (r : Ordering) (token other : List ℕ) (terms : ℕ) (first : List ℕ
    × ℕ) (more : List (List ℕ × ℕ)) → slice_cmp nat_cmp token first.0 ≡ r
    → is_some (cond (is_eq r) (Some first.1) (Named token more)) ≡ false
    → (is_some (Named token more) ≡ false
    → Named other (insert_entry (slice_cmp nat_cmp) more token terms)
    ≡ cond (is_eq (slice_cmp nat_cmp other token)) (Some terms) (Named other more))
    → Named other (match_ordering r ((token, terms) ∷ first ∷ more) ((first.0, terms) ∷ more) (first
    ∷ insert_entry (slice_cmp nat_cmp) more token terms))
    ≡ cond (is_eq (slice_cmp nat_cmp other token)) (Some terms) (Named other (first ∷ more))
one_of Less token other terms first more is free ih = refl
one_of Equal token other terms first more is free ih = absurd (false≢true (sym free))
one_of Greater token other terms first more is free ih =
    ap (λ o. cond (is_eq (slice_cmp nat_cmp other first.0)) (Some first.1) o) (ih free)
    ∙ cond_swap (is_eq (slice_cmp nat_cmp other first.0)) (is_eq (slice_cmp nat_cmp other token))
    (Some first.1) (Some terms) (Named other more) (λ same.
    elim (cases_Bool (is_eq (slice_cmp nat_cmp other token))) [
      | inl both ↦
          let here : token ≡ first.0 =
          sym (same_bytes other token both) ∙ same_bytes other first.0 same in
          let order : slice_cmp nat_cmp token first.0 ≡ Equal =
          (Equal-is _).0
          (ap (λ k. is_eq (slice_cmp nat_cmp token k)) (sym here) ∙ is_itself token) in
          absurd (cc (is, order))
      | inr none ↦ none
    ])

-- one more rider of another token has its terms, and the others keep theirs
pub named_with : (token other : List ℕ) (terms : ℕ) (riders : List (List ℕ × ℕ))
    → is_rider riders token ≡ false
    → Named other (insert_entry (slice_cmp nat_cmp) riders token terms)
    ≡ cond (is_eq (slice_cmp nat_cmp other token)) (Some terms) (Named other riders)
named_with token other terms [] free = refl
named_with token other terms (first ∷ more) free =
    one_of (slice_cmp nat_cmp token first.0) token other terms first more refl free
    (named_with token other terms more)

pub record AddsRider (earlier : List (List ℕ × ℕ)) (token : List ℕ) (terms : ℕ)
    (riders : List (List ℕ × ℕ)) : Type 0 where
  pub free : is_rider earlier token ≡ false
  pub one : riders ≡ insert_entry (slice_cmp nat_cmp) earlier token terms

added_if : (b : Bool) (earlier riders : List (List ℕ × ℕ)) (token : List ℕ) (terms : ℕ)
    → is_rider earlier token ≡ b
    → (if b then Err Rider else Ok (insert_entry (slice_cmp nat_cmp) earlier token terms))
    ≡ Ok riders → AddsRider earlier token terms riders
added_if true earlier riders token terms is at = absurd (cc)
added_if false earlier riders token terms is at = record { free = is; one = cc }

pub adds_rider : (earlier riders : List (List ℕ × ℕ)) (token : List ℕ) (terms : ℕ)
    → with_rider earlier token terms ≡ Ok riders → AddsRider earlier token terms riders
adds_rider earlier riders token terms is =
    added_if (is_rider earlier token) earlier riders token terms refl is

-- what a key of the riders reads as
pub record ReadsRider (classes : Members) (key : List ℕ) (value : Data) (rider : List ℕ
    × ℕ) : Type 0 where
  pub token : token_of_digits key ≡ Ok rider.0
  pub class : List ℕ
  pub is : value ≡ string class
  pub terms : class_named classes class ≡ Ok rider.1

abbrev rider_by : List ℕ → ℕ → List ℕ × ℕ
rider_by token terms = (token, terms)

abbrev by_class : List ℕ → ℕ → OrFault (List ℕ × ℕ)
by_class token terms = Ok (rider_by token terms)

same_rider : (token : List ℕ) (terms : ℕ) (rider : List ℕ × ℕ)
    → by_class token terms ≡ Ok rider → (token ≡ rider.0) × (terms ≡ rider.1)
same_rider token terms rider is = let same : rider_by token terms ≡ rider = cc in
    (ap (λ r. r.0) same, ap (λ r. r.1) same)

pub reads_rider : (classes : Members) (key : List ℕ) (value : Data) (rider : List ℕ × ℕ)
    → rider_of classes key value ≡ Ok rider → ReadsRider classes key value rider
reads_rider classes key value rider is =
    let token = bind_ok _ _ _ is in
    let name = bind_ok _ _ _ token.2 in
    let terms = bind_ok _ _ _ name.2 in
    let same = same_rider token.0 terms.0 rider terms.2 in
    record {
      token = token.1 ∙ ap (λ t. Ok t) same.0;
      class = name.0;
      is = is_text value the_key.Riders name.0 name.1;
      terms = terms.1 ∙ ap (λ t. Ok t) same.1;
    }

pub record StepsRider (classes : Members) (earlier : List (List ℕ × ℕ)) (key : List ℕ)
    (value : Data) (more : Members) (riders : List (List ℕ × ℕ)) : Type 0 where
  pub rider : List ℕ × ℕ
  pub read : ReadsRider classes key value rider
  pub next : List (List ℕ × ℕ)
  pub free : is_rider earlier rider.0 ≡ false
  pub found : (token : List ℕ)
      → Named token next ≡ cond (is_eq (slice_cmp nat_cmp token rider.0)) (Some rider.1)
      (Named token earlier)
  pub rest : riders_from classes next more ≡ Ok riders

step : (classes : Members) (earlier : List (List ℕ × ℕ)) (key : List ℕ) (value : Data)
    (more : Members) (riders : List (List ℕ × ℕ))
    → riders_from classes earlier (member key value more) ≡ Ok riders
    → StepsRider classes earlier key value more riders
step classes earlier key value more riders is =
    let one = bind_ok _ _ _ is in
    let two = bind_ok _ _ _ one.2 in
    let added = adds_rider earlier two.0 one.0.0 one.0.1 two.1 in
    record {
      rider = one.0;
      read = reads_rider classes key value one.0 one.1;
      next = two.0;
      free = added.free;
      found = λ token. ap (Named token) added.one
          ∙ named_with one.0.0 token one.0.1 earlier added.free;
      rest = two.2;
    }

-- a rider is found by its own token
here : (classes : Members) (earlier : List (List ℕ × ℕ)) (key : List ℕ) (value : Data)
    (more : Members) (riders : List (List ℕ × ℕ))
    (s : StepsRider classes earlier key value more riders) (token : List ℕ)
    → token ≡ s.rider.0 → Named token s.next ≡ Some s.rider.1
here classes earlier key value more riders s token same =
    s.found token ∙ ap (λ b. cond b (Some s.rider.1) (Named token earlier))
    (ap (λ k. is_eq (slice_cmp nat_cmp token k)) (sym same) ∙ is_itself token)

not_free : (earlier : List (List ℕ × ℕ)) (token other : List ℕ) (terms : ℕ)
    → is_rider earlier other ≡ false → token ≡ other → Named token earlier ≡ Some terms → ⊥
not_free earlier token other terms free same at =
    false≢true (sym free ∙ ap (λ k. is_rider earlier k) (sym same) ∙ ap is_some at)

-- an earlier rider is kept
still : (classes : Members) (token : List ℕ) (earlier : List (List ℕ × ℕ)) (text : Members)
    (riders : List (List ℕ × ℕ)) (terms : ℕ) → riders_from classes earlier text ≡ Ok riders
    → Named token earlier ≡ Some terms → Named token riders ≡ Some terms
still classes token earlier no_members riders terms is at = let same : earlier ≡ riders = cc in
    ap (Named token) (sym same) ∙ at
still classes token earlier (member key value more) riders terms is at =
    let s = step classes earlier key value more riders is in
    elim (cases_Bool (is_eq (slice_cmp nat_cmp token s.rider.0))) [
      | inl both ↦ absurd (not_free earlier token s.rider.0 terms s.free
          (same_bytes token s.rider.0 both) at)
      | inr none ↦ still classes token s.next more riders terms s.rest (s.found token
          ∙ ap (λ b. cond b (Some s.rider.1) (Named token earlier)) none ∙ at)
    ]

same_token : (key first token other : List ℕ) → key ≡ first → token_of_digits key ≡ Ok token
    → token_of_digits first ≡ Ok other → token ≡ other
same_token key first token other same one two = let both : Ok token ≡ Ok other =
    sym one ∙ ap token_of_digits same ∙ two in cc

same_class : (value : Data) (class other : List ℕ) → value ≡ string class → value ≡ string other
    → class ≡ other
same_class value class other one two = let both : string class ≡ string other = sym one ∙ two in cc

-- the terms of the class of a key that names the token are found
pub there : (classes : Members) (token : List ℕ) (earlier : List (List ℕ × ℕ)) (text : Members)
    (riders : List (List ℕ × ℕ)) (key class : List ℕ)
    → riders_from classes earlier text ≡ Ok riders
    → get_member key text ≡ Some (string class) → token_of_digits key ≡ Ok token → (terms : ℕ)
    × (class_named classes class ≡ Ok terms) × (Named token riders ≡ Some terms)
there classes token earlier no_members riders key class is at named = absurd (cc)
there classes token earlier (member first value more) riders key class is at named =
    let s = step classes earlier first value more riders is in
    ⊎_elim
    (λ (one : (key ≡ first) × (value ≡ string class)).
    let same : token ≡ s.rider.0 = same_token key first token s.rider.0 one.0 named s.read.token in
    let names : s.read.class ≡ class = same_class value s.read.class class s.read.is one.1 in (
      s.rider.1,
      ap (class_named classes) (sym names) ∙ s.read.terms,
      still classes token s.next more riders s.rider.1 s.rest
          (here classes earlier first value more riders s token same),
    ))
    (λ (later : (is_eq (slice_cmp nat_cmp key first) ≡ false)
    × (get_member key more ≡ Some (string class))).
    there classes token s.next more riders key class s.rest later.1 named)
    (member-found key first value (string class) more at)

-- no key names the token of an earlier rider
again : (classes : Members) (token : List ℕ) (earlier : List (List ℕ × ℕ)) (text : Members)
    (riders : List (List ℕ × ℕ)) (terms : ℕ) (key class : List ℕ)
    → riders_from classes earlier text ≡ Ok riders
    → Named token earlier ≡ Some terms → get_member key text ≡ Some (string class)
    → token_of_digits key ≡ Ok token → ⊥
again classes token earlier no_members riders terms key class is old at named = absurd (cc)
again classes token earlier (member first value more) riders terms key class is old at named =
    let s = step classes earlier first value more riders is in
    ⊎_elim
    (λ (one : (key ≡ first) × (value ≡ string class)).
    not_free earlier token s.rider.0 terms s.free
    (same_token key first token s.rider.0 one.0 named s.read.token) old)
    (λ (later : (is_eq (slice_cmp nat_cmp key first) ≡ false)
    × (get_member key more ≡ Some (string class))).
    elim (cases_Bool (is_eq (slice_cmp nat_cmp token s.rider.0))) [
      | inl both ↦ not_free earlier token s.rider.0 terms s.free (same_bytes token s.rider.0 both)
          old
      | inr none ↦ again classes token s.next more riders terms key class s.rest (s.found token
          ∙ ap (λ b. cond b (Some s.rider.1) (Named token earlier)) none ∙ old) later.1 named
    ])
    (member-found key first value (string class) more at)

-- a key that names the token and the class of which it pays the terms
pub record Came (classes : Members) (token : List ℕ) (text : Members) (terms : ℕ) : Type 0 where
  pub key : List ℕ
  pub class : List ℕ
  pub at : get_member key text ≡ Some (string class)
  pub named : token_of_digits key ≡ Ok token
  pub has : class_named classes class ≡ Ok terms

came_first : (classes : Members) (token : List ℕ) (earlier : List (List ℕ × ℕ)) (key : List ℕ)
    (value : Data) (more : Members) (riders : List (List ℕ × ℕ)) (terms : ℕ)
    (s : StepsRider classes earlier key value more riders) (b : Bool)
    → is_eq (slice_cmp nat_cmp token s.rider.0) ≡ b
    → cond b (Some s.rider.1) (Named token earlier) ≡ Some terms
    → (Named token earlier ≡ Some terms) ⊎ Came classes token (member key value more) terms
came_first classes token earlier key value more riders terms s true same is =
    let one : s.rider.1 ≡ terms = cc in
    inr (record {
      key = key;
      class = s.read.class;
      at = member-here key value more ∙ ap (λ (v : Data). Some v) s.read.is;
      named = s.read.token ∙ ap (λ (t : List ℕ). Ok t) (sym (same_bytes token s.rider.0 same));
      has = s.read.terms ∙ ap (λ (t : ℕ). Ok t) one;
    })
came_first classes token earlier key value more riders terms s false other is = inl is

came_later : (classes : Members) (token : List ℕ) (earlier : List (List ℕ × ℕ)) (key : List ℕ)
    (value : Data) (more : Members) (riders : List (List ℕ × ℕ)) (terms : ℕ)
    (s : StepsRider classes earlier key value more riders) (c : Came classes token more terms)
    → Came classes token (member key value more) terms
came_later classes token earlier key value more riders terms s c =
    elim (cases_Bool (is_eq (slice_cmp nat_cmp c.key key))) [
      | inl both ↦
          let same : token ≡ s.rider.0 =
          same_token c.key key token s.rider.0 (same_bytes c.key key both) c.named s.read.token in
          absurd (again classes token s.next more riders s.rider.1 c.key c.class s.rest
          (here classes earlier key value more riders s token same) c.at c.named)
      | inr none ↦ record {
        key = c.key;
        class = c.class;
        at = member-later c.key key value more none ∙ c.at;
        named = c.named;
        has = c.has;
      }
    ]

pub came : (classes : Members) (token : List ℕ) (earlier : List (List ℕ × ℕ)) (text : Members)
    (riders : List (List ℕ × ℕ)) (terms : ℕ) → riders_from classes earlier text ≡ Ok riders
    → Named token riders ≡ Some terms → (Named token earlier ≡ Some terms)
    ⊎ Came classes token text terms
came classes token earlier no_members riders terms is at = let same : earlier ≡ riders = cc in
    inl (ap (Named token) same ∙ at)
came classes token earlier (member key value more) riders terms is at =
    let s = step classes earlier key value more riders is in
    ⊎_elim
    (λ before. came_first classes token earlier key value more riders terms s
    (is_eq (slice_cmp nat_cmp token s.rider.0)) refl (sym (s.found token) ∙ before))
    (λ later. inr (came_later classes token earlier key value more riders terms s later))
    (came classes token s.next more riders terms s.rest at)

-- two keys that name one token are one key
pub one_key : (classes : Members) (token : List ℕ) (earlier : List (List ℕ × ℕ)) (text : Members)
    (riders : List (List ℕ × ℕ)) (key key' class class' : List ℕ)
    → riders_from classes earlier text ≡ Ok riders
    → get_member key text ≡ Some (string class) → token_of_digits key ≡ Ok token
    → get_member key' text ≡ Some (string class') → token_of_digits key' ≡ Ok token → key ≡ key'
one_key classes token earlier no_members riders key key' class class' is at named at' named' =
    absurd (cc)
one_key classes token earlier (member first value more) riders key key' class class' is at named at'
    named' =
    let s = step classes earlier first value more riders is in
    ⊎_elim
    (λ (one : (key ≡ first) × (value ≡ string class)).
    ⊎_elim
    (λ (other : (key' ≡ first) × (value ≡ string class')). one.0 ∙ sym other.0)
    (λ (later' : (is_eq (slice_cmp nat_cmp key' first) ≡ false)
    × (get_member key' more ≡ Some (string class'))).
    absurd (again classes token s.next more riders s.rider.1 key' class' s.rest
    (here classes earlier first value more riders s token
    (same_token key first token s.rider.0 one.0 named s.read.token)) later'.1 named'))
    (member-found key' first value (string class') more at'))
    (λ (later : (is_eq (slice_cmp nat_cmp key first) ≡ false)
    × (get_member key more ≡ Some (string class))).
    ⊎_elim
    (λ (other : (key' ≡ first) × (value ≡ string class')).
    absurd (again classes token s.next more riders s.rider.1 key class s.rest
    (here classes earlier first value more riders s token
    (same_token key' first token s.rider.0 other.0 named' s.read.token)) later.1 named))
    (λ (later' : (is_eq (slice_cmp nat_cmp key' first) ≡ false)
    × (get_member key' more ≡ Some (string class'))).
    one_key classes token s.next more riders key key' class class' s.rest later.1 named later'.1
    named')
    (member-found key' first value (string class') more at'))
    (member-found key first value (string class) more at)
