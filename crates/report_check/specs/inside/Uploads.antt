-- The upload lines that were found: what private functions alone cite.
use Rattle.std.specs.Prelude.{ℕ, List, Result, Ok, Err}
use Rattle.tap_views.specs.declared.upload_end.UploadEnd.{UploadEnd}
use Rattle.report_check.specs.declared.uploads.UploadLines.{UploadLines}
use Rattle.report_check.specs.declared.uploads.UploadLines.TheVariants.{NoLine, Reported}

-- what was found, as a list
abbrev pub found_of : UploadLines → Result (List UploadEnd) ℕ
found_of (Reported ends) = Ok ends.items
found_of (NoLine number) = Err number
