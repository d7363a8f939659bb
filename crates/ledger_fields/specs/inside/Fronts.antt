-- Columns at the front of a text: what private functions alone cite.
use Rattle.std.specs.Prelude.{◌≡◌, ◌≤◌, ℕ, Bool, List, Some, drop, length, take}
use Rattle.line_forms.specs.Columns.{column_where}

-- the column at the front of the text passes the test, and has so many bytes
abbrev pub IsFront : (List ℕ → Bool) → List ℕ → ℕ → Type 0
IsFront test text size = (size ≤ length text)
    × (column_where test text ≡ Some (take size text, drop size text))
