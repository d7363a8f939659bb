-- Taps that are numbered one after the other.
use Rattle.std.proofs.Common.{◌≡◌, ◌∙◌, ℕ, ◌+◌, List, [], ◌∷◌, ◌++◌, length, refl, ap, sym, ◌<◌}
use Rattle.std.proofs.Common.{get_or, take, arith, append_assoc, append-nil, Bool, true, false, not}
use Rattle.settled_bills.specs.Traces.{valid_fields, is_whole, numbered, traced_from}
use Rattle.settled_bills.specs.declared.trace.TracedTap.{TracedTap}
use Rattle.std.proofs.lemmas.List.{length-take, take_more, Folds.list_all-append}
use Rattle.std.specs.{List.list_all, Prelude.◌&&◌}
use Rattle.tap_parts.specs.Parts.{taps_at}
use Rattle.tap_views.specs.{Files.ValidBatchesView, Layout.Tap}
use Rattle.tap_views.specs.declared.encoder.TapFields.{TapFields}

-- taps behind others go on with the position after these
pub numbered_append : (upload position : ℕ) (xs ys : List TapFields)
    → numbered upload position (xs ++ ys)
    ≡ numbered upload position xs ++ numbered upload (position + length xs) ys
numbered_append upload position [] ys =
    let same : position ≡ position + 0 = omega arith in ap (λ (p : ℕ). numbered upload p ys) same
numbered_append upload position (x ∷ xs) ys =
    let same : (position + 1) + length xs ≡ position + length (x ∷ xs) = omega arith in
    ap (λ (ts : List TracedTap). record { tap = x; upload = upload; position = position } ∷ ts)
    (numbered_append upload (position + 1) xs ys
    ∙ ap (λ (p : ℕ). numbered upload (position + 1) xs ++ numbered upload p ys) same)

-- one tap more
pub numbered_more : (upload : ℕ) (list : List TapFields) (i : ℕ) (other : TapFields)
    → i < length list
    → numbered upload 1 (take (i + 1) list) ≡ numbered upload 1 (take i list)
    ++ record { tap = get_or list i other; upload = upload; position = i + 1 } ∷ []
numbered_more upload list i other within =
    let before = numbered upload 1 (take i list) in
    let long = length-take i list in
    let position : 1 + length (take i list) ≡ i + 1 = omega (arith, long, within) in
    ap (numbered upload 1) (take_more list i other within)
    ∙ numbered_append upload 1 (take i list) (get_or list i other ∷ [])
    ∙ ap (λ (p : ℕ). before ++ numbered upload p (get_or list i other ∷ [])) position

-- all taps fall to one part
pub all_at : (taps : List Tap) → taps_at (λ _. 0) 0 taps ≡ taps
all_at [] = refl
all_at (tap ∷ taps) = ap (λ (ts : List Tap). tap ∷ ts) (all_at taps)

-- one upload more
pub traced_push : (upload number : ℕ) (readings : List ValidBatchesView)
    (reading : ValidBatchesView)
    → number ≡ upload + length readings
    → traced_from upload (readings ++ reading ∷ [])
    ≡ traced_from upload readings ++ numbered number 1 (valid_fields reading)
traced_push upload number [] reading is =
    let same : upload ≡ number = omega (arith, is) in
    append-nil (numbered upload 1 (valid_fields reading))
    ∙ ap (λ (n : ℕ). numbered n 1 (valid_fields reading)) same
traced_push upload number (first ∷ readings) reading is =
    let on : number ≡ (upload + 1) + length readings = omega (arith, is) in
    ap (λ (ts : List TracedTap). numbered upload 1 (valid_fields first) ++ ts)
    (traced_push (upload + 1) number readings reading on)
    ∙ sym (append_assoc (numbered upload 1 (valid_fields first)) (traced_from (upload + 1) readings)
    (numbered number 1 (valid_fields reading)))

-- whether one upload more is whole, too
pub whole_push : (readings : List ValidBatchesView) (reading : ValidBatchesView)
    → list_all is_whole (readings ++ reading ∷ [])
    ≡ (list_all is_whole readings && is_whole reading)
whole_push readings reading =
    list_all-append is_whole readings (reading ∷ [])
    ∙ ap (λ (b : Bool). list_all is_whole readings && b) (by (is_whole reading))
  where
    by : (b : Bool) → (b && true) ≡ b
    by true = refl
    by false = refl

-- what is the opposite of another has it for its opposite
pub not_back : (a b : Bool) → a ≡ not b → b ≡ not a
not_back a true is = sym (ap not is)
not_back a false is = sym (ap not is)
