-- The digits of dates and times of day.
use Rattle.std.proofs.Common.{ℕ, zero, suc, ◌≡◌, ◌≢◌, ◌⊎◌, ◌+◌, ◌*◌, ◌/◌, ◌%◌, ◌<◌, ◌++◌, ◌&&◌}
use Rattle.std.proofs.Common.{Bool, List, true, eqb, get_or, append_assoc, arith, inl, inr, refl}
use Rattle.std.proofs.lemmas.Bool.{and_parts, cases_eq, eqb-true}
use Rattle.fare_texts.specs.declared.pairs.TheConstants.{PAIRS}

-- the table has the digits of each number below this one
abbrev are_pairs : ℕ → Bool
are_pairs zero = true
are_pairs (suc p) =
    (eqb (get_or PAIRS (p * 2) 0) (48 + p / 10) && eqb (get_or PAIRS (p * 2 + 1) 0) (48 + p % 10))
    && are_pairs p

pairs_below : (n p : ℕ) → are_pairs n ≡ true → p < n
    → (get_or PAIRS (p * 2) 0 ≡ 48 + p / 10) × (get_or PAIRS (p * 2 + 1) 0 ≡ 48 + p % 10)
pairs_below zero p all low = absurd (omega (arith, low))
pairs_below (suc n) p all low =
    let both = and_parts _ (are_pairs n) all in
    by_position (cases_eq p n) (and_parts _ _ both.0) (pairs_below n p both.1)
  where
    by_position : (p ≡ n) ⊎ (p ≢ n)
        → (eqb (get_or PAIRS (n * 2) 0) (48 + n / 10) ≡ true)
        × (eqb (get_or PAIRS (n * 2 + 1) 0) (48 + n % 10) ≡ true)
        → (p < n → (get_or PAIRS (p * 2) 0 ≡ 48 + p / 10)
        × (get_or PAIRS (p * 2 + 1) 0 ≡ 48 + p % 10))
        → (get_or PAIRS (p * 2) 0 ≡ 48 + p / 10) × (get_or PAIRS (p * 2 + 1) 0 ≡ 48 + p % 10)
    by_position (inl same) (tens, ones) rest = rw same (eqb-true _ _ tens, eqb-true _ _ ones)
    by_position (inr apart) both rest = rest (omega (arith, low, apart))

-- the digits that the table has of a number
pub pairs_at : (p : ℕ) → p < 100
    → (get_or PAIRS (p * 2) 0 ≡ 48 + p / 10) × (get_or PAIRS (p * 2 + 1) 0 ≡ 48 + p % 10)
pairs_at p low = pairs_below 100 p refl low

-- the parts of a time of day, put from the last to the first
pub clock_put : (old a b c d e f g h i j : List ℕ)
    (zulu low high dot second colon minute hour letter : List ℕ)
    → a ≡ zulu ++ old → b ≡ low ++ a → c ≡ high ++ b → d ≡ dot ++ c → e ≡ second ++ d
    → f ≡ colon ++ e → g ≡ minute ++ f → h ≡ colon ++ g → i ≡ hour ++ h → j ≡ letter ++ i
    → j ≡ (letter ++ (hour ++ (colon ++ (minute ++ (colon ++ (second ++ (dot ++ ((high ++ low)
    ++ zulu)))))))) ++ old
clock_put old a b c d e f g h i j zulu low high dot second colon minute hour letter
    ea eb ec ed ee ef eg eh ei ej =
    simp append_assoc (rw (ei, eh, eg, ef, ee, ed, ec, eb, ea) at ej)

-- the parts of a date
pub date_put : (old a b c d e f : List ℕ) (day dash month low high : List ℕ)
    → a ≡ day ++ old → b ≡ dash ++ a → c ≡ month ++ b → d ≡ dash ++ c → e ≡ low ++ d
    → f ≡ high ++ e
    → f ≡ ((high ++ low) ++ (dash ++ (month ++ (dash ++ day)))) ++ old
date_put old a b c d e f day dash month low high ea eb ec ed ee ef =
    simp append_assoc (rw (ee, ed, ec, eb, ea) at ef)
