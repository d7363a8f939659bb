-- Places of taps, and what is written there.
use Rattle.std.proofs.Common.{◌≡◌, ◌≢◌, ◌∙◌, ℕ, ◌+◌, ◌-◌, ◌<◌, ◌||◌, ◌&&◌, Bool, true, false, List}
use Rattle.std.proofs.Common.{[], ◌∷◌, ◌++◌, ap, arith, eqb-true, get_or, length, map, nat_eq, None}
use Rattle.std.proofs.Common.{Option, refl, set, slice_get, Some, suc, sym, zero, if◌then◌else◌}
use Rattle.ledger_check.specs.Positions.{HasUploads, at_position, named_of, taps_of}
use Rattle.ledger_check.specs.declared.positions.{PlacedTap.PlacedTap, Positions.Positions}
use Rattle.ledger_check.specs.inside.Positions.{unnamed}
use Rattle.std.proofs.Math.Bool.{and-true, or-false, or-true}
use Rattle.std.proofs.lemmas.{Bool.eqb-false, Bool.Decides.nat_tests, List.map-append}
use Rattle.std.proofs.lemmas.Option.{slice_get-map, slice_get_read}
use Rattle.std.specs.{Option.option_and_then, Prelude.option_map, Prelude.Vec}
use Rattle.std.specs.declared.alloc.Global.{Global}
use Rattle.tap_views.specs.declared.encoder.TapFields.{TapFields}

pub slice_get-set_same : {A : Type 0} (xs : List A) (i : ℕ) (a : A) → i < length xs
    → slice_get (set xs i a) i ≡ Some a
slice_get-set_same [] i a within = absurd (omega arith)
slice_get-set_same (x ∷ xs) zero a within = refl
slice_get-set_same (x ∷ xs) (suc i) a within = slice_get-set_same xs i a (omega arith)

pub slice_get-set_other : {A : Type 0} (xs : List A) (i j : ℕ) (a : A) → j ≢ i
    → slice_get (set xs i a) j ≡ slice_get xs j
slice_get-set_other [] i j a other = refl
slice_get-set_other (x ∷ xs) zero zero a other = absurd (other refl)
slice_get-set_other (x ∷ xs) zero (suc j) a other = refl
slice_get-set_other (x ∷ xs) (suc i) zero a other = refl
slice_get-set_other (x ∷ xs) (suc i) (suc j) a other =
    slice_get-set_other xs i j a (λ same. other (ap suc same))

-- a place behind an index
pub at_position-next : {A : Type 0} (xs : List A) (position at : ℕ) → position ≡ at + 1
    → at_position xs position ≡ slice_get xs at
at_position-next xs position at is =
    let some : nat_eq position 0 ≡ false = grind (arith, nat_tests) in
    let less : position - 1 ≡ at = omega arith in
    ap (λ (b : Bool). if b then None else slice_get xs (position - 1)) some ∙ ap (slice_get xs) less

-- what is written at an index is read there, and nowhere else
pub read_written : {X : Type 0} (n : Option X → Bool) (xs : List X) (at other : ℕ) (v old : X)
    (b : Bool) → at < length xs → slice_get xs at ≡ Some old → n (Some v) ≡ (n (Some old) || b)
    → n (slice_get (set xs at v) other) ≡ (n (slice_get xs other) || (nat_eq other at && b))
read_written {X = X} n xs at other v old b within was is = by_test (nat_eq other at) refl
  where
    by_test : (t : Bool) → nat_eq other at ≡ t
        → n (slice_get (set xs at v) other) ≡ (n (slice_get xs other) || (nat_eq other at && b))
    by_test true same =
        let here : other ≡ at = eqb-true other at same in
        ap (λ (k : ℕ). n (slice_get (set xs at v) k)) here
        ∙ ap n (slice_get-set_same xs at v within)
        ∙ is ∙ ap (λ (o : Option X). n o || b) (sym (ap (slice_get xs) here ∙ was))
        ∙ ap (λ (t : Bool). n (slice_get xs other) || (t && b)) (sym same)
    by_test false apart =
        ap n (slice_get-set_other xs at other v (eqb-false other at apart))
        ∙ sym (or-false (n (slice_get xs other)))
        ∙ ap (λ (t : Bool). n (slice_get xs other) || (t && b)) (sym apart)

-- the place that is written is named, and no other one is
pub named_written : (xs : List PlacedTap) (position at : ℕ) (there : PlacedTap) → position ≡ at + 1
    → at < length xs → there ≡ get_or xs at there → (other : ℕ)
    → named_of (at_position (set xs at (record { tap = there.tap; is_named = true })) other)
    ≡ (named_of (at_position xs other) || nat_eq other position)
named_written xs position at there is within was zero =
    let apart : nat_eq 0 position ≡ false = grind (arith, nat_tests) in sym apart
named_written xs position at there is within was (suc other) =
    let next : suc other ≡ other + 1 = omega arith in
    let here = at_position-next after (suc other) other next in
    let before = at_position-next xs (suc other) other next in
    let tests : nat_eq other at ≡ nat_eq (suc other) position = grind (arith, nat_tests) in
    ap named_of here
    ∙ read_written named_of xs at other _ there true within
    (slice_get_read xs (length xs) at there refl within was) (sym (or-true there.is_named))
    ∙ ap (λ (o : Option PlacedTap). named_of o || (nat_eq other at && true)) (sym before)
    ∙ ap (λ (t : Bool). named_of (at_position xs (suc other)) || t)
    (and-true (nat_eq other at) ∙ tests)
  where
    after : List PlacedTap
    after = set xs at (record { tap = there.tap; is_named = true })

-- one list more, of which no place was named
taps_unnamed : (taps : List TapFields) → taps_of (map unnamed taps) ≡ taps
taps_unnamed [] = refl
taps_unnamed (tap ∷ taps) = ap (λ (ts : List TapFields). tap ∷ ts) (taps_unnamed taps)

none_unnamed : (o : Option TapFields) → named_of (option_map unnamed o) ≡ false
none_unnamed None = refl
none_unnamed (Some tap) = refl

none_in : (taps : List TapFields) (position : ℕ)
    → named_of (at_position (map unnamed taps) position) ≡ false
none_in taps zero = refl
none_in taps (suc position) =
    let next : suc position ≡ position + 1 = omega arith in
    ap named_of (at_position-next (map unnamed taps) (suc position) position next
    ∙ slice_get-map unnamed taps position) ∙ none_unnamed (slice_get taps position)

pushed : {X : Type 0} (n : Option X → Bool) (xs : List X) (v : X) → n None ≡ false
    → n (Some v) ≡ false → ((k : ℕ) → n (slice_get xs k) ≡ false) → (k : ℕ)
    → n (slice_get (xs ++ v ∷ []) k) ≡ false
pushed n [] v none last all zero = last
pushed n [] v none last all (suc k) = none
pushed n (x ∷ xs) v none last all zero = all zero
pushed n (x ∷ xs) v none last all (suc k) = pushed n xs v none last (λ k. all (suc k)) k

pub add_unnamed : (positions after : Positions) (added : Vec PlacedTap Global)
    (taps : List TapFields) (uploads : List (List TapFields)) → added.items ≡ map unnamed taps
    → after.uploads.items ≡ positions.uploads.items ++ added ∷ [] → HasUploads positions uploads
    → HasUploads after (uploads ++ taps ∷ [])
add_unnamed positions after added taps uploads is more has = record {
  taps = ap (λ (xs : List (Vec PlacedTap Global)). map (λ u. taps_of u.items) xs) more
      ∙ map-append (λ u. taps_of u.items) positions.uploads.items (added ∷ [])
      ∙ ap (λ (ts : List (List TapFields)). ts ++ taps_of added.items ∷ []) has.taps
      ∙ ap (λ (ts : List TapFields). uploads ++ ts ∷ []) (ap taps_of is ∙ taps_unnamed taps);
  none = λ upload position.
      ap (λ (xs : List (Vec PlacedTap Global)). read position (slice_get xs upload)) more
      ∙ pushed (read position) positions.uploads.items added refl
      (ap (λ (ps : List PlacedTap). named_of (at_position ps position)) is ∙ none_in taps position)
      (λ k. has.none k position) upload;
}
  where
    read : ℕ → Option (Vec PlacedTap Global) → Bool
    read position o = named_of (option_and_then (λ placed. at_position placed.items position) o)
