-- Transfers: what private functions alone cite.
use Rattle.std.specs.Prelude.{ℕ, ◌≡◌, ◌<◌, ◌==◌, List, slice_index}
use Rattle.std.specs.Int.{bit_at}
use Rattle.tariffs.specs.Transfers.{has_pair}

-- bit `to` of the mask at `from` says whether the pairs have one from `from` to `to`
abbrev pub AreMasksOf : List ℕ → List (ℕ × ℕ) → Type 0
AreMasksOf masks pairs =
    (from to : ℕ) → from < 32 → to < 32
    → (bit_at (slice_index masks from) to == 1) ≡ has_pair pairs from to
