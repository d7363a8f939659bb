-- The sorted file of uploads.
use Rattle.std.specs.Prelude.{ℕ, List, Option}
use Rattle.tap_views.specs.declared.encoder.TapFields.{TapFields}
use Rattle.settlement.specs.SettledTaps.{AreSettledTaps}
use Rattle.sorted_taps.specs.Written.{IsWritten}

-- after the old bytes is a file of all valid taps of the uploads, in canonical order and in
-- batches of 512
pub record IsSortedFileOf (uploads : List (List ℕ)) (old new : Option (List ℕ)) : Type 0 where
  pub order : List TapFields
  pub settled : AreSettledTaps uploads order
  pub written : IsWritten old new order
