-- Shares: what private functions alone cite.
use Rattle.fare_service.specs.{Runs.RunVisit, Shares.Worked}
use Rattle.std.specs.Prelude.{ℕ, List}
use Rattle.tap_views.specs.declared.upload_end.UploadEnd.{UploadEnd}

-- an upload with the bytes with which it was lent, its end and its visits
abbrev pub worked : ℕ → List ℕ → UploadEnd → List RunVisit → Worked
worked upload file end visits =
    record { upload = upload; file = file; end = end; visits = visits }
