-- Cutting bytes into records: how many there are, where each stands, and what is left at either
-- end.
use Rattle.std.proofs.Common.{◌≡◌, ℕ, zero, suc, ◌+◌, ◌*◌, ◌-◌, ◌<◌, ◌≤◌, List, [], ◌∷◌, ◌++◌}
use Rattle.std.proofs.Common.{length, take, drop, slice_get, Some, refl, sym, ap, subst, ◌∙◌, arith}
use Rattle.std.proofs.Math.Nat.{mul-suc, mul-le-mul_left}
use Rattle.std.proofs.lemmas.List.{length-take-le, length-drop, take-append-le, drop-append-le}
use Rattle.std.proofs.lemmas.List.{take-take, drop-drop, drop-take, take_all}
use Rattle.std.specs.List.{AllByRecursion}
use Rattle.tap_views.proofs.Lists.{each-back, each-front}
use Rattle.tap_views.specs.{Faults.width, Layout.Tap, Layout.IsTap, Layout.Layout}
use Rattle.tap_views.specs.inside.Records.{first_records, taps_in, tap_at, AreRecords}

module _ (w : ℕ) (tap_of : List ℕ → Tap) where
  pub length-cut : (n : ℕ) (bytes : List ℕ) → length (first_records w tap_of n bytes) ≡ n
  length-cut zero bytes = refl
  length-cut (suc n) bytes = ap suc (length-cut n (drop w bytes))

  -- bytes behind the records change nothing
  pub cut-append : (n : ℕ) (xs ys : List ℕ) → w * n ≤ length xs
      → first_records w tap_of n (xs ++ ys) ≡ first_records w tap_of n xs
  cut-append zero xs ys whole = refl
  cut-append (suc n) xs ys whole =
      let first : w ≤ length xs = omega (arith, mul-suc w n) in
      let left : w * n ≤ length (drop w xs) = omega (arith, mul-suc w n, length-drop w xs) in
      rw (
        take-append-le w xs ys first,
        drop-append-le w xs ys first,
        cut-append n (drop w xs) ys left,
      ) refl

  -- what is true of each tap is true of the one at a place
  pub all-cut : (P : Tap → Type 0) (n i : ℕ) (bytes : List ℕ) → i < n
      → AllByRecursion P (first_records w tap_of n bytes)
      → P (tap_of (take w (drop (w * i) bytes)))
  all-cut P zero i bytes below all = absurd (omega arith)
  all-cut P (suc n) zero bytes below all =
      let start : w * zero ≡ 0 = omega arith in
      subst (λ (at : ℕ). P (tap_of (take w (drop at bytes)))) (sym start) all.0
  all-cut P (suc n) (suc i) bytes below all =
      let position : w + w * i ≡ w * suc i = omega (arith, mul-suc w i) in
      let moved : drop (w * i) (drop w bytes) ≡ drop (w * suc i) bytes =
      drop-drop (w * i) w bytes ∙ ap (λ (at : ℕ). drop at bytes) position in
      subst (λ (part : List ℕ). P (tap_of (take w part))) moved
      (all-cut P n i (drop w bytes) (omega arith) all.1)

  -- the tap at a place is the one in the record there
  pub slice_get-cut : (n i : ℕ) (bytes : List ℕ) → i < n
      → slice_get (first_records w tap_of n bytes) i ≡ Some (tap_of (take w (drop (w * i) bytes)))
  slice_get-cut zero i bytes below = absurd (omega arith)
  slice_get-cut (suc n) zero bytes below =
      let start : w * zero ≡ 0 = omega arith in rw start refl
  slice_get-cut (suc n) (suc i) bytes below =
      let position : w + w * i ≡ w * suc i = omega (arith, mul-suc w i) in
      let moved : drop (w * i) (drop w bytes) ≡ drop (w * suc i) bytes =
      drop-drop (w * i) w bytes ∙ ap (λ (at : ℕ). drop at bytes) position in
      slice_get-cut n i (drop w bytes) (omega arith)
      ∙ ap (λ (part : List ℕ). Some (tap_of (take w part))) moved

  -- the last record taken off
  pub cut-last : (n : ℕ) (bytes : List ℕ) → length bytes ≡ w * suc n
      → first_records w tap_of (suc n) bytes ≡ first_records w tap_of n (take (w * n) bytes)
      ++ tap_of (drop (w * n) bytes) ∷ []
  cut-last zero bytes whole =
      let start : w * zero ≡ 0 = omega arith in
      let all : take w bytes ≡ bytes = take_all w bytes (omega (arith, mul-suc w 0)) in
      rw (start, all) refl
  cut-last (suc n) bytes whole =
      let position : w + w * n ≡ w * suc n = omega (arith, mul-suc w n) in
      let left : length (drop w bytes) ≡ w * suc n =
      omega (arith, mul-suc w (suc n), length-drop w bytes) in
      let first : take w (take (w * suc n) bytes) ≡ take w bytes =
      take-take w (w * suc n) bytes (omega arith) in
      let trailing : take (w * n) (drop w bytes) ≡ drop w (take (w * suc n) bytes) =
      sym (drop-take w (w * n) bytes) ∙ ap (λ (at : ℕ). drop w (take at bytes)) position in
      let last : drop (w * n) (drop w bytes) ≡ drop (w * suc n) bytes =
      drop-drop (w * n) w bytes ∙ ap (λ (at : ℕ). drop at bytes) position in
      rw (cut-last n (drop w bytes) left, trailing, last, first) refl

-- ---- records in a layout
pub first_tap : (layout : Layout) (n : ℕ) (bytes : List ℕ) → 0 < n → AreRecords layout n bytes
    → IsTap (tap_at layout (take (width layout) bytes))
first_tap layout zero bytes some are = absurd (omega arith)
first_tap layout (suc n) bytes some are = are.each.0

pub first_rest : (layout : Layout) (n : ℕ) (bytes : List ℕ) → 0 < n → AreRecords layout n bytes
    → AreRecords layout (n - 1) (drop (width layout) bytes)
first_rest layout zero bytes some are = absurd (omega arith)
first_rest layout (suc n) bytes some are =
    let less : suc n - 1 ≡ n = omega arith in
    let P : ℕ → Type 0 = λ m. AreRecords layout m (drop (width layout) bytes) in
    subst P (sym less) (record {
      fits = are.fits;
      whole = omega (arith, are.whole, mul-suc (width layout) n, length-drop (width layout) bytes);
      most = omega (arith, are.most);
      each = are.each.1;
    })

pub first_cut : (layout : Layout) (n : ℕ) (bytes : List ℕ) → 0 < n
    → taps_in layout n bytes ≡ tap_at layout (take (width layout) bytes)
    ∷ taps_in layout (n - 1) (drop (width layout) bytes)
first_cut layout zero bytes some = absurd (omega arith)
first_cut layout (suc n) bytes some = let less : suc n - 1 ≡ n = omega arith in rw less refl

pub last_cut : (layout : Layout) (n : ℕ) (bytes : List ℕ) → 0 < n → length bytes ≡ width layout * n
    → taps_in layout n bytes ≡ taps_in layout (n - 1) (take (width layout * (n - 1)) bytes)
    ++ tap_at layout (drop (width layout * (n - 1)) bytes) ∷ []
last_cut layout zero bytes some whole = absurd (omega arith)
last_cut layout (suc n) bytes some whole =
    let less : suc n - 1 ≡ n = omega arith in
    rw less (cut-last (width layout) (tap_at layout) n bytes whole)

pub last_tap : (layout : Layout) (n : ℕ) (bytes : List ℕ) → 0 < n → AreRecords layout n bytes
    → IsTap (tap_at layout (drop (width layout * (n - 1)) bytes))
last_tap layout n bytes some are =
    let P : List Tap → Type 0 = AllByRecursion IsTap in
    let m : ℕ = width layout * (n - 1) in
    (each-back IsTap (taps_in layout (n - 1) (take m bytes)) (tap_at layout (drop m bytes) ∷ [])
    (subst P (last_cut layout n bytes some are.whole) are.each)).0

pub last_rest : (layout : Layout) (n : ℕ) (bytes : List ℕ) → 0 < n → AreRecords layout n bytes
    → AreRecords layout (n - 1) (take (width layout * (n - 1)) bytes)
last_rest layout n bytes some are =
    let P : List Tap → Type 0 = AllByRecursion IsTap in
    let step : width layout * (n - 1) + width layout ≡ width layout * n =
    sym (mul-suc (width layout) (n - 1)) ∙ ap (λ (m : ℕ). width layout * m) (omega arith) in
    record {
      fits = are.fits;
      whole = length-take-le (width layout * (n - 1)) bytes (omega (arith, are.whole, step));
      most = omega (arith, are.most);
      each = each-front IsTap _ _ (subst P (last_cut layout n bytes some are.whole) are.each);
    }

-- a record at a place ends within the bytes
pub room : (layout : Layout) (n i : ℕ) (bytes : List ℕ) → i < n → AreRecords layout n bytes
    → width layout * i + width layout ≤ length bytes
room layout n i bytes below are =
    let most : width layout * suc i ≤ width layout * n =
    mul-le-mul_left (width layout) (omega arith) in
    omega (arith, are.whole, mul-suc (width layout) i)
