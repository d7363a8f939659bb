-- The words of bits beside the pairs that they stand for.
use Rattle.std.proofs.Common.{◌≡◌, ◌≢◌, ◌⊎◌, ℕ, ◌*◌, ◌%◌, ◌^◌, ◌<◌, ◌==◌, ◌||◌, true, false, List}
use Rattle.std.proofs.Common.{[], ◌∷◌, ◌++◌, length, get_or, sym, ap, ◌∙◌, arith, bit_or, slice_set}
use Rattle.std.proofs.Common.{w32, inl, inr}
use Rattle.std.proofs.Math.{Bool.or-false, Bool.or-true, ListN.replicate}
use Rattle.std.proofs.lemmas.{Bool.Decides.eqb_tells, List.get_or-set_same}
use Rattle.std.proofs.lemmas.List.{get_or-set_other, get_or-replicate, Folds.list_any-append}
use Rattle.std.proofs.lemmas.Nat.Bits.{bit_at-zero, bit_at_set_same, bit_at_set_other}
use Rattle.std.specs.Int.{bit_at}
use Rattle.tariffs.specs.{Transfers.has_pair, Transfers.joins, inside.Transfers.AreMasksOf}

-- words without bits stand for no pairs
pub masks-none : AreMasksOf (replicate 32 0) []
masks-none from to f t =
    let zero_word : get_or (replicate 32 0) from 0 ≡ 0 = get_or-replicate {A = ℕ} 32 from 0 0 f in
    rw (zero_word, bit_at-zero to)

-- the masks with bit t of the mask at f set
with_bit : List ℕ → ℕ → ℕ → List ℕ
with_bit masks f t = slice_set masks f (bit_or (get_or masks f 0) (1 * 2 ^ t % 2 ^ 32))

word-same : (masks : List ℕ) (f t : ℕ) → f < length masks
    → get_or (with_bit masks f t) f 0 ≡ bit_or (get_or masks f 0) (1 * 2 ^ t % 2 ^ 32)
unfolding with_bit
word-same masks f t inside = get_or-set_same masks f _ 0 inside

word-other : (masks : List ℕ) (f t from : ℕ) → f ≢ from
    → get_or (with_bit masks f t) from 0 ≡ get_or masks from 0
unfolding with_bit
word-other masks f t from other = get_or-set_other masks f from _ 0 (λ e. other (sym e))

-- what the new pair adds, by whether it goes from and to these places
added : (masks : List ℕ) (pairs : List (ℕ × ℕ)) (f t : ℕ) → f < 32 → t < 32 → length masks ≡ 32
    → AreMasksOf masks pairs
    → (from to : ℕ) → from < 32 → to < 32
    → ((f == from) ≡ true) × (f ≡ from) ⊎ ((f == from) ≡ false) × (f ≢ from)
    → ((t == to) ≡ true) × (t ≡ to) ⊎ ((t == to) ≡ false) × (t ≢ to)
    → (bit_at (get_or (with_bit masks f t) from 0) to == 1)
    ≡ (has_pair pairs from to || (joins from to (f, t) || false))
added masks pairs f t inf int len old from to lf lt (inr a) tos =
    rw (word-other masks f t from a.1, a.0, or-false (has_pair pairs from to)) (old from to lf lt)
added masks pairs f t inf int len old from to lf lt (inl a) (inl b) =
    let inside : f < length masks = omega arith in
    let word : get_or (with_bit masks f t) from 0 ≡ bit_or (get_or masks f 0) (1 * 2 ^ t % 2 ^ 32) =
    rw (← a.1) (word-same masks f t inside) in
    let bit : bit_at (bit_or (get_or masks f 0) (1 * 2 ^ t % 2 ^ 32)) to ≡ 1 =
    rw (← b.1) (bit_at_set_same w32 (get_or masks f 0) t int) in
    rw (word, bit, a.0, b.0, or-true (has_pair pairs from to))
added masks pairs f t inf int len old from to lf lt (inl a) (inr b) =
    let inside : f < length masks = omega arith in
    let word : get_or (with_bit masks f t) from 0 ≡ bit_or (get_or masks f 0) (1 * 2 ^ t % 2 ^ 32) =
    rw (← a.1) (word-same masks f t inside) in
    let bit : bit_at (bit_or (get_or masks f 0) (1 * 2 ^ t % 2 ^ 32)) to
    ≡ bit_at (get_or masks from 0) to =
    bit_at_set_other w32 (get_or masks f 0) t int to (λ e. b.1 (sym e))
    ∙ ap (λ k. bit_at (get_or masks k 0) to) a.1 in
    rw (word, bit, a.0, b.0, or-false (has_pair pairs from to)) (old from to lf lt)

-- one more bit stands for one more pair
pub masks-add : (masks : List ℕ) (pairs : List (ℕ × ℕ)) (f t : ℕ) → f < 32 → t < 32
    → length masks ≡ 32 → AreMasksOf masks pairs
    → AreMasksOf (slice_set masks f (bit_or (get_or masks f 0) (1 * 2 ^ t % 2 ^ 32))) (pairs
    ++ (f, t) ∷ [])
unfolding with_bit
masks-add masks pairs f t inf int len old from to lf lt =
    rw (list_any-append (joins from to) pairs ((f, t) ∷ []))
    (added masks pairs f t inf int len old from to lf lt (eqb_tells f from) (eqb_tells t to))
