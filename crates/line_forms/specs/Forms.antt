-- Readers of a value at the front of a text, and the forms that they read.
use Rattle.std.specs.Prelude.{◌≡◌, ◌==◌, ℕ, Bool, true, false, List, [], ◌∷◌, ◌++◌, Option, Some, None, drop, not}
use Rattle.std.specs.List.{before_first, list_all, position_or_len}

-- reads the value at the front of a text, and gives it with what follows
abbrev pub Reader : Type 0 → Type 0
Reader A = List ℕ → Option (A × List ℕ)

abbrev pub with_rest : {A : Type 0} → Option A → List ℕ → Option (A × List ℕ)
with_rest None rest = None
with_rest (Some value) rest = Some (value, rest)

-- the value of what comes before the first byte that stops it
abbrev pub read_before : {A : Type 0} → (ℕ → Bool) → (List ℕ → Option A) → Reader A
read_before stops value text =
    with_rest (value (before_first stops text)) (drop (position_or_len stops text) text)

-- no byte stops it
abbrev pub none_stops : (ℕ → Bool) → List ℕ → Bool
none_stops stops text = list_all (λ byte. not (stops byte)) text

-- the text is empty, or its first byte stops what is before it
abbrev pub BeginsWith : (ℕ → Bool) → List ℕ → Type 0
BeginsWith stops [] = Unit {0}
BeginsWith stops (byte ∷ more) = stops byte ≡ true

abbrev pub after_if : Bool → Option (List ℕ) → Option (List ℕ)
after_if true rest = rest
after_if false rest = None

-- what follows the word with which the text begins
abbrev pub after : List ℕ → List ℕ → Option (List ℕ)
after [] text = Some text
after (b ∷ bs) [] = None
after (b ∷ bs) (c ∷ cs) = after_if (b == c) (after bs cs)

-- the second value, after the first one
abbrev pub with_second : {A B : Type 0} → A → Option (B × List ℕ) → Option ((A × B) × List ℕ)
with_second a None = None
with_second a (Some parts) = Some ((a, parts.0), parts.1)

-- the rest of a read, after the first value
abbrev pub go_on : {A B : Type 0} → Reader B → Option (A × List ℕ) → Option ((A × B) × List ℕ)
go_on second None = None
go_on second (Some parts) = with_second parts.0 (second parts.1)

-- one value after another
abbrev pub then_read : {A B : Type 0} → Reader A → Reader B → Reader (A × B)
then_read first second text = go_on second (first text)

-- a value after a word
abbrev pub read_if : {A : Type 0} → Reader A → Option (List ℕ) → Option (A × List ℕ)
read_if reads None = None
read_if reads (Some text) = reads text

abbrev pub after_read : {A : Type 0} → List ℕ → Reader A → Reader A
after_read word reads text = read_if reads (after word text)

-- The texts that say values are read, and no others, where what follows them is what may follow.
pub record IsForm {A : Type 0} (says : A → List ℕ → Type 0) (ends : List ℕ → Type 0)
    (reads : Reader A) : Type 0 where
  pub sound : (whole : List ℕ) (value : A) (rest : List ℕ) → reads whole ≡ Some (value, rest)
      → (text : List ℕ) × says value text × (whole ≡ text ++ rest)
  pub complete : (value : A) (text rest : List ℕ) → says value text → ends rest
      → reads (text ++ rest) ≡ Some (value, rest)

-- the text says the value after the word
abbrev pub IsAfter : {A : Type 0} → List ℕ → (A → List ℕ → Type 0) → A → List ℕ → Type 0
IsAfter word says value text = (rest : List ℕ) × says value rest × (text ≡ word ++ rest)

-- the text says the one value, and then the other
abbrev pub IsThen : {A B : Type 0} → (A → List ℕ → Type 0) → (B → List ℕ → Type 0) → A × B → List ℕ → Type 0
IsThen first second value text =
    (a : List ℕ) × (b : List ℕ) × first value.0 a × second value.1 b × (text ≡ a ++ b)

-- each of the texts may follow
abbrev pub IsFirst : {B : Type 0} → (List ℕ → Type 0) → (B → List ℕ → Type 0) → Type 0
IsFirst {B = B} ends says =
    (value : B) (text rest : List ℕ) → says value text → ends (text ++ rest)

-- a line feed, and nothing else
abbrev pub is_end : List ℕ → Bool
is_end [] = false
is_end (byte ∷ []) = byte == 10
is_end (byte ∷ (other ∷ more)) = false

abbrev pub value_if : {A : Type 0} → Bool → A → Option A
value_if true value = Some value
value_if false value = None

abbrev pub ended : {A : Type 0} → Option (A × List ℕ) → Option A
ended None = None
ended (Some parts) = value_if (is_end parts.1) parts.0

-- what a whole line says, with its line feed
abbrev pub said_by : {A : Type 0} → Reader A → List ℕ → Option A
said_by reads line = ended (reads line)
