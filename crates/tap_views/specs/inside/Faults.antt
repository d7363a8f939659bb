-- Faults: what private functions alone cite.
use Rattle.std.specs.Prelude.{◌≡◌, ◌⊎◌, ℕ, ◌<◌, ◌≤◌, List, length, take, codes}
use Rattle.tap_views.specs.Layout.{moment_limit}
use Rattle.tap_views.specs.Faults.{count_in, flags_in, header, layout_in, moment_in, size_in}

-- ---- what the contracts of the private functions say
-- the first moments are below the limit
abbrev pub AllEarly : List ℕ → ℕ → Type 0
AllEarly bytes n = (index : ℕ) → index < n → moment_in bytes index < moment_limit

-- the header is sound and counts n taps
pub record IsHeader (bytes : List ℕ) (n : ℕ) : Type 0 where
  pub whole : header (layout_in bytes) ≤ length bytes
  pub known : (take 4 bytes ≡ codes "TAP1") ⊎ (take 4 bytes ≡ codes "TAP2")
  pub no_flags : flags_in bytes ≡ 0
  pub count : n ≡ count_in bytes
  pub most : n ≤ 4096

-- the bytes begin with n whole taps, and none is late
pub record IsMeasured (bytes : List ℕ) (n : ℕ) : Type 0 where
  pub sound : IsHeader bytes n
  pub whole : size_in bytes ≤ length bytes
  pub early : AllEarly bytes n
