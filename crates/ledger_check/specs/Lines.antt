-- A text split into lines.
use Rattle.std.specs.Prelude.{◌≡◌, ◌≢◌, ℕ, ◌==◌, if◌then◌else◌, List, [], ◌∷◌, ◌++◌}

-- the byte is nowhere in the text
abbrev pub Lacks : ℕ → List ℕ → Type 0
Lacks byte [] = Unit {0}
Lacks byte (other ∷ text) = (other ≢ byte) × Lacks byte text

-- the text ends with its one newline
pub record IsLine (text : List ℕ) : Type 0 where
  pub front : List ℕ
  pub lacks : Lacks 10 front
  pub shown : text ≡ front ++ 10 ∷ []

-- the lines, if the byte is before the first of them
unfoldable pub started_with : ℕ → List (List ℕ) → List (List ℕ)
started_with byte [] = (byte ∷ []) ∷ []
started_with byte (line ∷ lines) = (byte ∷ line) ∷ lines

-- the lines of a text: each but the last ends with the newline, which is nowhere else in it
unfoldable pub lines_of : List ℕ → List (List ℕ)
lines_of [] = []
lines_of (byte ∷ text) =
    if byte == 10 then (byte ∷ []) ∷ lines_of text else started_with byte (lines_of text)
