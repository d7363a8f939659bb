-- A ghost copy of bytes.
use Rattle.std.specs.Prelude.{ℕ, ◌+◌, List, [], ◌∷◌, ◌++◌}

-- the bytes, and how many there are
pub record BytesView : Type 0 where
  pub count : ℕ
  pub bytes : List ℕ

abbrev pub no_bytes : BytesView
no_bytes = record { count = 0; bytes = [] }

abbrev pub with_byte : BytesView → ℕ → BytesView
with_byte copy byte = record { count = copy.count + 1; bytes = copy.bytes ++ byte ∷ [] }
