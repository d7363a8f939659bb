-- How the views see their bytes: a run of records of one width, each a tap. No contract that other
-- crates read names these words.
use Rattle.std.specs.{Borrow.Bor, List.AllByRecursion, Prelude.◌≡◌, Prelude.ℕ, Prelude.zero}
use Rattle.std.specs.Prelude.{suc, ◌*◌, ◌≤◌, List, [], ◌∷◌, length, take, drop, Option, Some, None}
use Rattle.tap_views.specs.Faults.{width}
use Rattle.tap_views.specs.Layout.{Tap, IsTap, Layout, Tap1, Tap2, IsLayout}

-- the layout, by the validator that all taps of a batch share
abbrev pub layout_of : Option (Bor (List ℕ)) → Layout
layout_of None = Tap1
layout_of (Some validator) = Tap2 validator.now

-- the tap in a record
abbrev pub tap_at : Layout → List ℕ → Tap
tap_at Tap1 bytes =
    record {
      token = take 16 bytes;
      validator = take 4 (drop 16 bytes);
      moment = take 8 (drop 20 bytes);
    }
tap_at (Tap2 validator) bytes =
    record { token = take 16 bytes; validator = validator; moment = take 8 (drop 16 bytes) }

module _ (wide : ℕ) (tap_of : List ℕ → Tap) where
  -- the taps of the first n records
  abbrev pub first_records : ℕ → List ℕ → List Tap
  first_records zero bytes = []
  first_records (suc n) bytes = tap_of (take wide bytes) ∷ first_records n (drop wide bytes)

-- the taps of n records in a layout
abbrev pub taps_in : Layout → ℕ → List ℕ → List Tap
taps_in layout n bytes = first_records (width layout) (tap_at layout) n bytes

-- the bytes are n records, and each is a tap
pub record AreRecords (layout : Layout) (n : ℕ) (bytes : List ℕ) : Type 0 where
  pub fits : IsLayout layout
  pub whole : length bytes ≡ width layout * n
  pub most : n ≤ 4096
  pub each : AllByRecursion IsTap (taps_in layout n bytes)
