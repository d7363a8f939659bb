-- Words of the command line that name files, as they are opened.
use Rattle.std.specs.Prelude.{ℕ, if◌then◌else◌, List, Option, None, Some, codes}
use Rattle.std.specs.Str.{bytes_eq}

-- the name of the file that a word names; none of standard input, which `-` represents
abbrev pub file_named : List ℕ → Option (List ℕ)
file_named word = if bytes_eq word (codes "-") then None else Some word
