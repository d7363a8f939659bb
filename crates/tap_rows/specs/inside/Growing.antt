-- How far an upload has grown: what private functions alone cite.
use Rattle.std.specs.Prelude.{◌≡◌, List, ◌++◌}
use Rattle.tap_rows.specs.declared.growing.Growing.{Growing}
use Rattle.tap_views.specs.{Encoding.AreEncodable, Files.IsFileOf}
use Rattle.tap_views.specs.declared.encoder.TapFields.{TapFields}

-- it has these taps, of which the last ones wait for their batch
pub record IsGrown (growing : Growing) (taps : List TapFields) : Type 0 where
  pub done : List TapFields
  pub upload : IsFileOf growing.upload.items done
  pub room : AreEncodable (λ tap. tap.moment) growing.waiting.items
  pub all : taps ≡ done ++ growing.waiting.items
