-- The classes of single riders by their tokens.
use Rattle.std.specs.Prelude.{ℕ, List, map}
use Rattle.tap_views.specs.{Token.bytes_of, declared.token.Token.Token}

-- places of classes by tokens, as places by the tokens' bytes
abbrev pub by_bytes : List (Token × ℕ) → List (List ℕ × ℕ)
by_bytes entries = map (λ entry. (bytes_of entry.0, entry.1)) entries
