-- Taps that wait until they are a batch: what private functions alone cite.
use Rattle.sorted_taps.specs.Written.{IsPartlyWritten}
use Rattle.std.specs.Io.KnownBytes.{Appends}
use Rattle.std.specs.Prelude.{◌≡◌, ℕ, ◌≤◌, List, ◌++◌, length, flat_map, Option}
use Rattle.tap_views.specs.Encoding.{AreEarly, Encodes}
use Rattle.tap_views.specs.{Files.IsFileOf, declared.encoder.TapFields.TapFields}

-- the taps may wait: they are no more than a batch has, and their moments are before 2100
pub record MayWait (waiting : List TapFields) : Type 0 where
  pub most : length waiting ≤ 512
  pub early : AreEarly (λ (tap : TapFields). tap.moment) waiting

-- after the old bytes is a batch of these taps
abbrev pub IsBatchWritten : Option (List ℕ) → Option (List ℕ) → List TapFields → Type 0
IsBatchWritten old new taps = (batch : List ℕ) × Encodes batch taps × Appends old new batch

-- of these taps the first are after the old bytes, in whole batches of 512, and the others wait
pub record HasPut (old new : Option (List ℕ)) (taps waiting : List TapFields) : Type 0 where
  pub part : IsPartlyWritten old new
  pub reads : IsFileOf part.text (flat_map (λ batch. batch) part.batches)
  pub all_taps : taps ≡ flat_map (λ batch. batch) part.batches ++ waiting
