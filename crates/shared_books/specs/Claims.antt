-- Claims: who may know that nobody else holds anything. There are a fixed number of them. A split
-- halves them, a join adds them up, and whoever has them all has met all others.
use Rattle.std.specs.Prelude.{◌≡◌, ◌⊎◌, ℕ, ◌-◌, ◌/◌, ◌^◌, ◌<◌, max, List, sum_by}
use mathlib.Core.Option.{some}
use lib.ListN.{get_elem?}

-- how many claims there are
abbrev pub all_claims : ℕ
all_claims = 2 ^ 63

-- what a split gives to the new one: half of the claims
abbrev pub claims_given : ℕ → ℕ
claims_given claims = claims / 2

-- what a split leaves to the old one: the rest. A single claim cannot be halved, and is lost
abbrev pub claims_left : ℕ → ℕ
claims_left claims = claims - max 1 (claims / 2)

-- Between any two steps: a claim was lost, or all views together have all claims, and whoever has
-- none was joined into another.
module _ {V : Type 0} where
  -- Fewer than all claims are held, or exactly all, and then who holds none has spent them.
  abbrev pub AreClaims : (V → ℕ) → (V → Type 0) → List V → Type 0
  AreClaims claims Spent views =
      (sum_by claims views < all_claims)
      ⊎ ((sum_by claims views ≡ all_claims)
      × ((j : ℕ) (v : V) → get_elem? views j ≡ some v → claims v ≡ 0 → Spent v))
