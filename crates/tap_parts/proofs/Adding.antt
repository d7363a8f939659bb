-- Parts to which more taps are added.
use Rattle.std.proofs.Common.{◌≡◌, ℕ, ◌==◌, ◌<◌, List, [], ◌∷◌, ◌++◌, get_or, map, flat_map, refl}
use Rattle.std.proofs.Common.{sym, ap, subst, ◌∙◌, append-nil, append_assoc}
use Rattle.std.proofs.lemmas.List.{map-append, Concat.flat_map-append, Elements.filter-append}
use Rattle.tap_parts.specs.Parts.{taps_at, AreAddedBy}
use Rattle.tap_views.specs.{Encoding.fields_of, Layout.Tap, declared.encoder.TapFields.TapFields}

-- no taps change no part
pub none_added : (position_of : List ℕ → ℕ) (lists : List (List TapFields))
    → AreAddedBy position_of [] lists lists
none_added position_of lists = record {
  number = refl;
  each = λ position within. sym (append-nil (get_or lists position []));
}

-- the fields of the taps at a place, in two lists
pub fields-append : (position_of : List ℕ → ℕ) (position : ℕ) (xs ys : List Tap)
    → map fields_of (taps_at position_of position (xs ++ ys))
    ≡ map fields_of (taps_at position_of position xs) ++ map fields_of
    (taps_at position_of position ys)
fields-append position_of position xs ys =
    ap (map fields_of) (filter-append (λ tap. position_of tap.token == position) xs ys)
    ∙ map-append fields_of (taps_at position_of position xs) (taps_at position_of position ys)

pub both_added : (position_of : List ℕ → ℕ) (xs ys : List Tap) (old now new : List (List TapFields))
    → AreAddedBy position_of xs old now → AreAddedBy position_of ys now new
    → AreAddedBy position_of (xs ++ ys) old new
both_added position_of xs ys old now new one other = record {
  number = other.number ∙ one.number;
  each = λ position within.
      other.each position (subst (λ n. position < n) (sym one.number) within)
      ∙ ap (λ fields. fields ++ map fields_of (taps_at position_of position ys))
      (one.each position within)
      ∙ append_assoc (get_or old position []) (map fields_of (taps_at position_of position xs))
      (map fields_of (taps_at position_of position ys))
      ∙ ap (λ fields. get_or old position [] ++ fields)
      (sym (fields-append position_of position xs ys));
}

-- the taps of one batch more are added
pub batch_added : (position_of : List ℕ → ℕ) (done : List (List Tap)) (batch : List Tap)
    (old now new : List (List TapFields)) → AreAddedBy position_of (flat_map (λ b. b) done) old now
    → AreAddedBy position_of batch now new
    → AreAddedBy position_of (flat_map (λ b. b) (done ++ batch ∷ [])) old new
batch_added position_of done batch old now new one other =
    let id : List Tap → List Tap = λ b. b in
    subst (λ taps. AreAddedBy position_of taps old new) (sym (flat_map-append id done (batch ∷ [])
    ∙ ap (λ taps. flat_map id done ++ taps) (append-nil batch)))
    (both_added position_of (flat_map id done) batch old now new one other)
