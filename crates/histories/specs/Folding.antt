-- The hash of the accounts: a product for each eight bytes, its halves joined by xor.
use Rattle.histories.specs.declared.token_hash.{FoldedProduct.FoldedProduct, HashSeed.HashSeed}
use Rattle.std.specs.Int.{from_le_bytes, w32, w64}
use Rattle.std.specs.Prelude.{ℕ, ◌*◌, ◌/◌, ◌-◌, ◌^◌, List, [], ◌∷◌, length, nat_le, nat_lt}
use Rattle.std.specs.Prelude.{if◌then◌else◌, slice_index, bit_and, bit_xor}

-- the two halves of the 128 bits of a * b, joined by xor
unfoldable pub folded_multiply : ℕ → ℕ → ℕ
folded_multiply a b = bit_xor (bit_and (a * b) (2 ^ 64 - 1)) (a * b / 2 ^ 64)

-- the number in the first eight, four or one of the bytes
unfoldable pub leading_number : List ℕ → ℕ
leading_number bytes =
    let at = slice_index bytes in
    if nat_le 8 (length bytes)
    then from_le_bytes w64 (at 0 ∷ at 1 ∷ at 2 ∷ at 3 ∷ at 4 ∷ at 5 ∷ at 6 ∷ at 7 ∷ [])
    else (if nat_le 4 (length bytes) then from_le_bytes w32 (at 0 ∷ at 1 ∷ at 2 ∷ at 3 ∷ [])
    else (if nat_lt 0 (length bytes) then at 0 else 0))

-- the state after a write
unfoldable pub state_after_write : FoldedProduct → List ℕ → FoldedProduct
state_after_write hasher bytes =
    record {
      state = folded_multiply (bit_xor hasher.state (leading_number bytes)) hasher.multiplier;
      multiplier = hasher.multiplier;
    }

-- what the hasher answers
abbrev pub hasher_state : FoldedProduct → ℕ
hasher_state hasher = hasher.state

-- the state that a seed begins with
unfoldable pub first_of : HashSeed → FoldedProduct
first_of seed = record { state = seed.state; multiplier = seed.multiplier }
