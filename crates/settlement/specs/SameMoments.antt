-- Taps of one token at one moment, and histories in order of time.
use Rattle.std.specs.Prelude.{◌≡◌, ◌≤◌, List, ◌∷◌, ◌++◌, Contains, is_some, true}
use Rattle.tariffs.specs.Fares.{Fares, mode_at}
use Rattle.histories.specs.declared.entry.Entry.{Entry}

-- one of these entries, by a validator that the table knows, has the token and moment of the entry
pub record HasSameMoment (fares : Fares) (before : List Entry) (entry : Entry) : Type 0 where
  pub other : Entry
  pub there : Contains before other
  pub token : other.token ≡ entry.token
  pub known : is_some (mode_at fares other.moment other.validator) ≡ true
  pub moment : other.moment ≡ entry.moment

-- of two entries of one token, the one that comes first has no later moment
abbrev pub IsInTimeOrder : List Entry → Type 0
IsInTimeOrder history =
    (before : List Entry) (entry : Entry) (after : List Entry) → history ≡ before ++ entry ∷ after
    → (other : Entry) → Contains before other → other.token ≡ entry.token
    → other.moment ≤ entry.moment
