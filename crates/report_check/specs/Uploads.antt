-- What the lines of uploads say, with which a report begins.
use Rattle.std.specs.Prelude.{ℕ, zero, suc, ◌+◌, List, [], ◌∷◌, ◌++◌, Option, Some, None, Result, Ok, Err}
use Rattle.std.specs.Prelude.{codes, length, nat_eq, option_map}
use Rattle.std.specs.Str.{bytes_eq}
use Rattle.line_forms.specs.Forms.{value_if}
use Rattle.report_texts.specs.Forms.{count_at, head_in, upload_in}
use Rattle.tap_views.specs.declared.upload_end.UploadEnd.{UploadEnd}
use Rattle.tap_views.specs.declared.upload_end.UploadEnd.TheVariants.{Cut, Undrawn}

-- the end in ` cut 4` or ` undrawn`, with the line feed
abbrev pub cut_or : Option ℕ → List ℕ → Option UploadEnd
cut_or (Some taps) text = Some (Cut taps)
cut_or None text = value_if (bytes_eq text (codes " undrawn\n")) Undrawn

abbrev pub cut_in : List ℕ → Option UploadEnd
cut_in text = cut_or (head_in (codes " cut ") text) text

abbrev pub numbered : Option (ℕ × List ℕ) → Option (ℕ × UploadEnd)
numbered None = None
numbered (Some parts) = option_map (λ end. (parts.0, end)) (cut_in parts.1)

-- the upload's number and its end in `upload 0 cut 4` or `upload 0 undrawn`
abbrev pub unfinished_in : List ℕ → Option (ℕ × UploadEnd)
unfinished_in line = numbered (count_at (codes "upload ") line)

abbrev pub or_else : {A : Type 0} → Option A → Option A → Option A
or_else (Some a) other = Some a
or_else None other = other

-- the upload's number and its end in the line of an upload, whole or cut
abbrev pub end_in : List ℕ → Option (ℕ × UploadEnd)
end_in line = or_else (upload_in line) (unfinished_in line)

abbrev pub end_if : ℕ → Option (ℕ × UploadEnd) → Option UploadEnd
end_if upload None = None
end_if upload (Some found) = value_if (nat_eq found.0 upload) found.1

-- the end in the line of the upload of this number
abbrev pub end_at : ℕ → List ℕ → Option UploadEnd
end_at upload line = end_if upload (end_in line)

-- what follows from a value, or the number of the line that lacks it
abbrev pub found_or : {A B : Type 0} → ℕ → Option A → (A → Result B ℕ) → Result B ℕ
found_or number None next = Err number
found_or number (Some value) next = next value

-- The ends that this many lines say, after those of earlier lines; or the number of the first line
-- that says none. Line 1 says how many uploads there are.
abbrev pub ends_from : ℕ → List UploadEnd → List (List ℕ) → Result (List UploadEnd) ℕ
ends_from zero ends lines = Ok ends
ends_from (suc left) ends [] = Err (length ends + 2)
ends_from (suc left) ends (line ∷ lines) =
    found_or (length ends + 2) (end_at (length ends) line)
    (λ end. ends_from left (ends ++ end ∷ []) lines)

-- the ends of the uploads with whose lines a report begins; or the number of the first line that no
-- report has there
abbrev pub uploads_in : List (List ℕ) → Result (List UploadEnd) ℕ
uploads_in [] = Err 1
uploads_in (head ∷ lines) =
    found_or 1 (head_in (codes "uploads ") head) (λ uploads. ends_from uploads [] lines)
