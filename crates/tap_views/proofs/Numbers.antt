-- What `byteorder` reads is the number of the bytes.
use Rattle.std.proofs.Common.{◌≡◌, ℕ, zero, ◌+◌, ◌-◌, ◌*◌, ◌^◌, List, [], ◌∷◌, length, take, drop}
use Rattle.std.proofs.Common.{length-drop, refl, ap, ◌∙◌, arith}
use Rattle.byteorder.specs.{Endian.big_number, Numbers.big_from-cons}
use Rattle.std.proofs.lemmas.List.{take_rest}
use Rattle.tap_views.specs.Layout.{num}

all_read : (bytes : List ℕ) → big_number (length bytes) bytes ≡ num bytes
all_read [] = refl
all_read (b ∷ bs) = ap (λ (rest : ℕ). b * 256 ^ length bs + rest)
    (big_from-cons zero (length bs) b bs ∙ all_read bs)

pub number_read : (n : ℕ) (bytes : List ℕ) → length bytes ≡ n → big_number n bytes ≡ num bytes
number_read n bytes wide = rw (← wide) (all_read bytes)

-- the last n bytes of some
pub number_after : (n at : ℕ) (bytes : List ℕ) → length bytes ≡ at + n
    → big_number n (take (length bytes - at) (drop at bytes)) ≡ num (drop at bytes)
number_after n at bytes wide =
    rw (take_rest bytes at)
    (number_read n (drop at bytes) (omega (arith, length-drop {A = ℕ}, wide)))
