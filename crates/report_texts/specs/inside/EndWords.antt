-- The line of an upload's end after the upload's number, and the numbers in it.
use Rattle.fare_texts.specs.ReportLines.{number_line}
use Rattle.std.specs.{Fmt.decimal, Prelude.ℕ, Prelude.List, Prelude.◌++◌, Prelude.codes}
use Rattle.tap_views.specs.{UploadEnds.end_text, declared.fault.LayoutFault.LayoutFault}
use Rattle.tap_views.specs.declared.fault.LayoutFault.TheVariants.{Short, Magic, Flags, TooMany}
use Rattle.tap_views.specs.declared.fault.LayoutFault.TheVariants.{Length, Moment}
use Rattle.tap_views.specs.declared.upload_end.UploadEnd.{UploadEnd}

-- ` posted 4`, with the end of the line
abbrev pub end_words : UploadEnd → List ℕ
end_words end = codes " " ++ (end_text end ++ codes "\n")

-- the number in a fault's name
abbrev pub fault_number : LayoutFault → ℕ
fault_number (Short have) = 1
fault_number Magic = 2
fault_number Flags = 3
fault_number (TooMany count) = 4
fault_number (Length want have) = 5
fault_number (Moment index) = 6

-- ` at 64 L5`, with the end of the line
abbrev pub fault_words : ℕ → LayoutFault → List ℕ
fault_words offset fault =
    codes " at " ++ (decimal offset ++ number_line (codes " L") (fault_number fault))
