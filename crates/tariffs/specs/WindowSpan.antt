-- How long windows are and when a day starts, and the texts that name them.
use Rattle.std.specs.{Char.is_ascii_digit, Option.option_and_then, Prelude.ℕ, Prelude.◌+◌}
use Rattle.std.specs.Prelude.{◌-◌, ◌*◌, ◌&&◌, ◌==◌, ◌≤◌, ◌<◌, List, [], ◌∷◌, Option, Some, None}
use Rattle.std.specs.Prelude.{codes, if◌then◌else◌, nat_le, nat_lt, length, take, drop, option_map}
use Rattle.tariffs.specs.{Names.same_name, declared.window_span.WindowLength.WindowLength}
use Rattle.tariffs.specs.declared.window_span.WindowLength.TheVariants.{Days, CalendarDay}
use Rattle.tariffs.specs.declared.window_span.WindowLength.TheVariants.{CalendarMonth, CalendarWeek}
use Rattle.tariffs.specs.declared.window_span.WindowSpan.{WindowSpan}

-- a number of days is one from 1 to 31
abbrev pub IsBoundedLength : WindowLength → Type 0
IsBoundedLength (Days count) = (1 ≤ count) × (count ≤ 31)
IsBoundedLength CalendarDay = Unit {0}
IsBoundedLength CalendarWeek = Unit {0}
IsBoundedLength CalendarMonth = Unit {0}

-- the length is within its bounds, and a day starts within it
abbrev pub IsBoundedSpan : WindowSpan → Type 0
IsBoundedSpan span = IsBoundedLength span.length × (span.day_starts < 1_440)

-- the value of a digit
abbrev pub digit : ℕ → Option ℕ
digit byte = if is_ascii_digit byte then Some (byte - 48) else None

-- the number that two digits show
abbrev pub two_digits : ℕ → ℕ → Option ℕ
two_digits ten one =
    option_and_then (λ tens. option_map (λ ones. tens * 10 + ones) (digit one)) (digit ten)

-- the number that one digit shows, or two of which the first is not 0
abbrev pub shown_number : List ℕ → Option ℕ
shown_number [] = None
shown_number (one ∷ []) = digit one
shown_number (ten ∷ (one ∷ [])) =
    if ten == 48 then None else two_digits ten one
shown_number (_ ∷ (_ ∷ (_ ∷ _))) = None

-- the number, if it is that of the days of a window
abbrev pub window_days : ℕ → Option ℕ
window_days number = if nat_le 1 number && nat_le number 31 then Some number else None

-- the number of days that a text as `7 days` names, 1 to 31
abbrev pub days_named : List ℕ → Option ℕ
days_named text =
    if same_name (drop (length text - 5) text) (codes " days")
    then option_and_then window_days (shown_number (take (length text - 5) text)) else None

-- the length of windows that the text names
abbrev pub length_named : List ℕ → Option WindowLength
length_named text =
    if same_name text (codes "calendar day") then Some CalendarDay
    else if same_name text (codes "calendar week") then Some CalendarWeek
    else if same_name text (codes "calendar month") then Some CalendarMonth
    else option_map Days (days_named text)

-- the minutes after 00:00, if there is such a time of day
abbrev pub minutes_of : ℕ → ℕ → Option ℕ
minutes_of hour minute =
    if nat_lt hour 24 && nat_lt minute 60 then Some (hour * 60 + minute) else None

-- the minutes after 00:00 of the time that a text as `04:30` names
abbrev pub minutes_named : List ℕ → Option ℕ
minutes_named (ten ∷ (one ∷ (colon ∷ (tens ∷ (ones ∷ []))))) =
    if colon == 58
    then option_and_then (λ hour. option_and_then (minutes_of hour) (two_digits tens ones))
    (two_digits ten one)
    else None
minutes_named _ = None
