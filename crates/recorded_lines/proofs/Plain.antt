-- Lines up to their line feed.
use Rattle.std.proofs.Common.{◌≡◌, ◌==◌, ◌+◌, ◌<◌, ◌-◌, ◌⊎◌, inl, inr, ℕ, zero, suc, Bool, true, false}
use Rattle.std.proofs.Common.{List, [], ◌∷◌, ◌++◌, length, take, drop, Some, None, cond, refl, sym}
use Rattle.std.proofs.Common.{ap, ◌∙◌, arith, append-nil}
use Rattle.std.specs.Prelude.{slice_index}
use Rattle.std.proofs.lemmas.Bool.{false≢true, false_from_ne_true}
use Rattle.std.proofs.lemmas.List.{drop-drop, length-drop, take-append-drop, take_all}
use Rattle.memchr.specs.Find.{IsFirstByte, is_byte}
use Rattle.line_folds.specs.Folds.{lines_of, to_first}
use Rattle.recorded_lines.specs.inside.Taken.{HasTaken, IsLine, ends_line}

-- up to the first line feed
cut : (front : List ℕ) (end : ℕ) → end < length front → (slice_index front end == 10) ≡ true
    → ((k : ℕ) → k < end → ¬ ((slice_index front k == 10) ≡ true))
    → IsLine (take (suc end) front) × (ends_line (take (suc end) front) ≡ true)
cut [] end low is none = absurd (omega (arith, low))
cut (x ∷ xs) zero low is none = (tt, is)
cut (x ∷ []) (suc end) low is none = absurd (omega (arith, low))
cut (x ∷ y ∷ xs) (suc end) low is none =
    let (line, ends) =
    cut (y ∷ xs) end (omega (arith, low)) is (λ k lt. none (suc k) (omega (arith, lt))) in
    ((false_from_ne_true _ (none 0 (omega arith)), line), ends)

no_feed : (front : List ℕ)
    → ((k : ℕ) → k < length front → ¬ ((slice_index front k == 10) ≡ true))
    → IsLine front × (ends_line front ≡ false)
no_feed [] none = (tt, refl)
no_feed (x ∷ []) none = (tt, false_from_ne_true _ (none 0 (omega arith)))
no_feed (x ∷ y ∷ xs) none =
    let (line, ends) = no_feed (y ∷ xs) (λ k lt. none (suc k) (omega (arith, lt))) in
    ((false_from_ne_true _ (none 0 (omega arith)), line), ends)

-- ---- what was taken of what is at hand
pub slice_is : (at : ℕ) (own piece : List ℕ) → own ≡ piece
    → take (length own - at) (drop at own) ≡ drop at piece
slice_is at own piece is =
    let size = length-drop at own in
    take_all (length own - at) (drop at own) (omega (arith, size)) ∙ ap (drop at) is

pub some_taken : (piece line line' : List ℕ) (at end : ℕ)
    → IsFirstByte (is_byte 10) (drop at piece) (Some end)
    → line' ≡ line ++ take (end + 1) (drop at piece)
    → HasTaken (drop at piece) (drop (at + (end + 1)) piece) line line' true
some_taken piece line line' at end first is =
    let on : end + 1 ≡ suc end = omega arith in
    let (line, ends) = cut (drop at piece) end first.0.high first.1
    (λ k lt. first.0.before k (omega arith) lt) in
    record {
      front = take (end + 1) (drop at piece);
      is_line = rw on line;
      ends = rw on ends;
      split = sym (take-append-drop (end + 1) (drop at piece))
          ∙ ap (λ (l : List ℕ). take (end + 1) (drop at piece) ++ l) (drop-drop (end + 1) at piece);
      taken = is;
      all = λ no. absurd (cc);
    }

pub all_taken : (piece line line' after : List ℕ) (at : ℕ)
    → IsFirstByte (is_byte 10) (drop at piece) None → line' ≡ line ++ drop at piece → after ≡ []
    → HasTaken (drop at piece) after line line' false
all_taken piece line line' after at first is none =
    let (line, ends) = no_feed (drop at piece) (λ k lt. first k (omega arith) lt) in
    record {
      front = drop at piece;
      is_line = line;
      ends = ends;
      split = sym (append-nil (drop at piece)) ∙ ap (λ (l : List ℕ). drop at piece ++ l) (sym none);
      taken = is;
      all = λ no. none;
    }

-- ---- the next line
pub more_line : (line front : List ℕ) → IsLine line → ends_line line ≡ false → IsLine front
    → IsLine (line ++ front) × (ends_line (line ++ front) ≡ ends_line front)
more_line [] front is none also = (also, refl)
more_line (x ∷ []) [] is none also = (tt, none)
more_line (x ∷ []) (y ∷ ys) is none also = ((none, also), refl)
more_line (x ∷ y ∷ xs) front is none also =
    let (line, ends) = more_line (y ∷ xs) front is.1 none also in ((is.0, line), ends)

pub one_line : (line rest : List ℕ) → IsLine line
    → (ends_line line ≡ true) ⊎ ((0 < length line) × (rest ≡ []))
    → lines_of (line ++ rest) ≡ line ∷ lines_of rest
one_line [] rest is (inl feed) = absurd (false≢true feed)
one_line [] rest is (inr (some, none)) = absurd (omega (arith, some))
one_line (x ∷ []) rest is (inl feed) = rw feed
one_line (x ∷ []) rest is (inr (some, none)) = rw none (by (x == 10))
  where
    by : (b : Bool) → cond b ((x ∷ []) ∷ []) (to_first x []) ≡ (x ∷ []) ∷ []
    by true = refl
    by false = refl
one_line (x ∷ y ∷ xs) rest is (inl feed) = rw (is.0, one_line (y ∷ xs) rest is.1 (inl feed))
one_line (x ∷ y ∷ xs) rest is (inr (some, none)) =
    rw (is.0, one_line (y ∷ xs) rest is.1 (inr (omega arith, none)))

pub long_line : (line rest : List ℕ) → IsLine line → 0 < length line
    → (more : List ℕ) × (lines : List (List ℕ))
    × (lines_of (line ++ rest) ≡ (line ++ more) ∷ lines)
long_line [] rest is some = absurd (omega (arith, some))
long_line (x ∷ []) rest is some = by (x == 10) (lines_of rest)
  where
    by : (b : Bool) (lines : List (List ℕ)) → (more : List ℕ) × (after : List (List ℕ))
        × (cond b ((x ∷ []) ∷ lines) (to_first x lines) ≡ (x ∷ more) ∷ after)
    by true lines = ([], lines, refl)
    by false [] = ([], [], refl)
    by false (line ∷ lines) = (line, lines, refl)
long_line (x ∷ y ∷ xs) rest is some =
    let (more, lines, shown) = long_line (y ∷ xs) rest is.1 (omega arith) in
    (more, lines, rw (is.0, shown))
