-- What a text that is written out has so far.
use Rattle.std.specs.Prelude.{◌≡◌, ℕ, List, ◌++◌, Option}
use Rattle.std.specs.Io.KnownBytes.{Appends}

-- Known bytes grow by a prefix of the text.
pub record Begins (before after : Option (List ℕ)) (text : List ℕ) : Type 0 where
  pub front : List ℕ
  pub rest : List ℕ
  pub whole : text ≡ front ++ rest
  pub written : Appends before after front

-- The text is written after what waited in a buffer: known bytes grow by a prefix of both, and
-- the rest of both waits.
pub record GoesOut (before : Option (List ℕ)) (waited : List ℕ) (after : Option (List ℕ))
    (waits text : List ℕ) : Type 0 where
  pub front : List ℕ
  pub whole : waited ++ text ≡ front ++ waits
  pub written : Appends before after front
