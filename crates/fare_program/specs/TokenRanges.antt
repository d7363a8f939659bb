-- The word of `--tokens`, a range of tokens, and what is wrong with it.
use Rattle.fare_program.specs.declared.usage.RangeFault.{RangeFault}
use Rattle.fare_program.specs.declared.usage.RangeFault.TheVariants.{Digits, Form, Order}
use Rattle.hex.specs.Hex.{decode_sized}
use Rattle.std.specs.{Cmp.Lexicographic.slice_cmp, List.after_first, List.before_first}
use Rattle.std.specs.Ordering.{is_lt, nat_cmp}
use Rattle.std.specs.Prelude.{ℕ, ◌==◌, ◌&&◌, Bool, true, List, [], ◌∷◌, Option, None, Some}
use Rattle.std.specs.{Prelude.if◌then◌else◌, Prelude.is_ok, Result.result_ok}

-- what is before a dot and after it and one dot more, if that follows it
abbrev pub around_dots : List ℕ → List ℕ → Option (List ℕ × List ℕ)
around_dots from [] = None
around_dots from (byte ∷ below) = if byte == 46 then Some (from, below) else None

-- FROM and BELOW of `FROM..BELOW`
abbrev pub sides_of : List ℕ → Option (List ℕ × List ℕ)
sides_of word =
    around_dots (before_first (λ byte. byte == 46) word) (after_first (λ byte. byte == 46) word)

-- the digits are those of a token, or left out
abbrev pub is_side : List ℕ → Bool
is_side [] = true
is_side (digit ∷ digits) = is_ok (decode_sized (digit ∷ digits) 16)

-- the bytes of the token that the digits write
abbrev pub bytes_of_side : List ℕ → Option (List ℕ)
bytes_of_side [] = None
bytes_of_side (digit ∷ digits) = result_ok (decode_sized (digit ∷ digits) 16)

-- a range's first token is to be below the one that ends it, if it has both
abbrev pub order_fault : Option (List ℕ) → Option (List ℕ) → Option RangeFault
order_fault None below = None
order_fault (Some from) None = None
order_fault (Some from) (Some below) =
    if is_lt (slice_cmp nat_cmp from below) then None else Some Order

-- what is wrong with two sides
abbrev pub fault_of_sides : Option (List ℕ × List ℕ) → Option RangeFault
fault_of_sides None = Some Form
fault_of_sides (Some (from, below)) =
    if is_side from && is_side below then order_fault (bytes_of_side from) (bytes_of_side below)
    else Some Digits

-- what is wrong with the word, if anything: first its form, then its digits, and then the order of
-- its tokens
abbrev pub range_fault : List ℕ → Option RangeFault
range_fault word = fault_of_sides (sides_of word)
