-- The moment of a tap, as the field of a row gives it: in milliseconds, or by RFC 3339 in UTC.
use Rattle.jiff_core.specs.{Date.epoch_day, declared.civil.date.Date.Date}
use Rattle.jiff_fmt.specs.{Temporal.parse_timestamp, Text.date_text, Text.pad2}
use Rattle.std.specs.Prelude.{◌≡◌, ℕ, ◌-◌, ◌*◌, ◌/◌, ◌%◌, ◌<◌, ◌≤◌, ◌⊎◌, pos, List, ◌++◌, codes}
use Rattle.std.specs.Prelude.{length, slice_index, Ok}
use Rattle.std.specs.Str.Parse.{IsNumeral, digits_value}
use Rattle.tap_views.specs.Layout.{moment_limit}

-- the text is one decimal digit or more, and they write this number
pub record IsDecimal (text : List ℕ) (number : ℕ) : Type 0 where
  pub digits : IsNumeral 10 text
  pub value : number ≡ digits_value 10 text

-- at the places at which `2024-03-08T17:00:00Z` has its `T`, its colons and its `Z`, this text has
-- them too; what is before the `Z` may be longer, as a fraction makes it
abbrev pub HasUtcPunctuation : List ℕ → Type 0
HasUtcPunctuation text =
    (20 ≤ length text) × (slice_index text 10 ≡ 84) × (slice_index text 13 ≡ 58)
    × (slice_index text 16 ≡ 58) × (slice_index text (length text - 1) ≡ 90)

-- the text has this punctuation, and gives an instant by the grammar of RFC 3339: `number`
-- milliseconds after 1970-01-01T00:00Z, and no fraction of one
pub record IsUtc (text : List ℕ) (number : ℕ) : Type 0 where
  pub punctuation : HasUtcPunctuation text
  pub instant : parse_timestamp text ≡ Ok (pos (number * 1_000_000))

-- the text gives a moment in one of the two ways
abbrev pub IsTime : List ℕ → ℕ → Type 0
IsTime text number = IsDecimal text number ⊎ IsUtc text number

-- the text gives a moment that a tap can have: one below the limit
abbrev pub IsMoment : List ℕ → ℕ → Type 0
IsMoment text number = IsTime text number × (number < moment_limit)

-- the time of day that is `ms` milliseconds after midnight, as `17:30:05` between a `T` and a `Z`
abbrev pub seconds_text : ℕ → List ℕ
seconds_text ms =
    codes "T" ++ (pad2 (ms / 3_600_000) ++ (codes ":" ++ (pad2 (ms / 60_000 % 60) ++ (codes ":"
    ++ (pad2 (ms / 1_000 % 60) ++ codes "Z")))))

-- the text of a moment that is a whole number of seconds, as `2024-03-08T17:00:00Z`
pub record IsSecondText (moment : ℕ) (text : List ℕ) : Type 0 where
  pub date : Date
  pub day : epoch_day date ≡ pos (moment / 86_400_000)
  pub whole : moment % 1_000 ≡ 0
  pub shown : text ≡ date_text date ++ seconds_text (moment % 86_400_000)
