-- The words of `--table`: a file, and the date from which its table is valid.
use Rattle.jiff_core.specs.Calendar.{days_from_civil, days_in_month}
use Rattle.program_manners.specs.declared.table_words.DateFault.{DateFault}
use Rattle.program_manners.specs.declared.table_words.DateFault.TheVariants.{IsFirst, NoDate}
use Rattle.program_manners.specs.declared.table_words.DateFault.TheVariants.{NotADay, OtherYear}
use Rattle.program_manners.specs.declared.table_words.WrittenDate.{WrittenDate}
use Rattle.std.specs.Prelude.{◌≡◌, ℕ, ◌+◌, ◌-◌, ◌*◌, ◌&&◌, ◌==◌, Bool, List, [], ◌∷◌}
use Rattle.std.specs.Prelude.{Option, None, Some, drop, false, if◌then◌else◌, is_some, length}
use Rattle.std.specs.Prelude.{nat_le, pos, slice_index_or, map, take, true}
use Rattle.tariffs.specs.{ClockView.ClockView, Until.midnight_by, Until.moment_nanos}

-- a decimal digit
abbrev pub is_digit : ℕ → Bool
is_digit byte = nat_le 48 byte && nat_le byte 57

-- the number that two decimal digits write
abbrev pub two_digits : ℕ → ℕ → Option ℕ
two_digits tens ones =
    if is_digit tens && is_digit ones then Some ((tens - 48) * 10 + (ones - 48)) else None

-- the byte at a place, and 0 if there is none
abbrev pub byte_at : List ℕ → ℕ → ℕ
byte_at bytes position = slice_index_or bytes position 0

-- eleven bytes, of which an `@` is the first, and hyphens are where they are in `@2026-01-04`
abbrev pub has_form : List ℕ → Bool
has_form end =
    length end == 11
    && (byte_at end 0 == 64 && (byte_at end 5 == 45 && byte_at end 8 == 45))

-- the date of these numbers, if each of them is written
abbrev pub date_of : Option ℕ → Option ℕ → Option ℕ → Option ℕ → Option WrittenDate
date_of (Some century) (Some year) (Some month) (Some day) =
    Some (record { year = century * 100 + year; month = month; day = day })
date_of _ _ _ _ = None

-- the date of `@2026-01-04`, with the digits of any date
abbrev pub written_in : List ℕ → Option WrittenDate
written_in end =
    if has_form end then date_of (two_digits (byte_at end 1) (byte_at end 2))
    (two_digits (byte_at end 3) (byte_at end 4)) (two_digits (byte_at end 6) (byte_at end 7))
    (two_digits (byte_at end 9) (byte_at end 10))
    else None

-- where the end of a word begins that may be a date
abbrev pub end_start : List ℕ → ℕ
end_start word = length word - 11

-- the date that the word ends in, if its end has the form of one: what is after the word's last
-- `@`
unfoldable pub written_date : List ℕ → Option WrittenDate
written_date word = written_in (drop (end_start word) word)

-- the name of the file: the word without the `@` and the date after it, if it has one
unfoldable pub file_named : List ℕ → List ℕ
file_named word = if is_some (written_date word) then take (end_start word) word else word

-- its year is from 1970 to 2099
abbrev pub has_year : WrittenDate → Bool
has_year date = nat_le 1970 date.year && nat_le date.year 2099

-- the calendar has it
abbrev pub is_day : WrittenDate → Bool
is_day date =
    (nat_le 1 date.month && nat_le date.month 12)
    && (nat_le 1 date.day && nat_le date.day (days_in_month (pos date.year) date.month))

-- what is wrong with the date of a word, if anything: its year, then that there is no such day,
-- then that the first table has a date
abbrev pub wrong_date : Bool → WrittenDate → Option DateFault
wrong_date first date =
    if has_year date then (if is_day date then (if first then Some IsFirst else None)
    else Some NotADay) else Some OtherYear

-- what is wrong with the date of a word, or with that it has none
abbrev pub date_fault_of : Bool → Option WrittenDate → Option DateFault
date_fault_of first None = if first then None else Some NoDate
date_fault_of first (Some date) = wrong_date first date

-- what is wrong with a word, which is the first one or a later one
abbrev pub date_fault : Bool → List ℕ → Option DateFault
date_fault first word = date_fault_of first (written_date word)

-- the word and its fault, if it has one, else what is found after it
abbrev pub found_or : List ℕ → Option DateFault → Option (List ℕ × DateFault)
    → Option (List ℕ × DateFault)
found_or word (Some fault) trailing = Some (word, fault)
found_or word None trailing = trailing

-- the first of these words that is wrong, none of which is the first of all
abbrev pub wrong_later : List (List ℕ) → Option (List ℕ × DateFault)
wrong_later [] = None
wrong_later (word ∷ words) = found_or word (date_fault false word) (wrong_later words)

-- the words of `--table`: of the first table, and of those after it
pub record TableNames : Type 0 where
  pub first : List ℕ
  pub later : List (List ℕ)

-- these words, if there are any
abbrev pub tables_in : List (List ℕ) → Option TableNames
tables_in [] = None
tables_in (first ∷ later) = Some (record { first = first; later = later })

-- the first of all words that is wrong
abbrev pub wrong_word : TableNames → Option (List ℕ × DateFault)
wrong_word tables =
    found_or tables.first (date_fault true tables.first) (wrong_later tables.later)

-- the names of the files of fare tables: of the first, and of those after it
abbrev pub table_files : TableNames → List (List ℕ)
table_files tables = tables.first ∷ map file_named tables.later

-- the date begins at the moment, in milliseconds since 1970-01-01T00:00Z, by these clocks
abbrev pub IsMidnight : ClockView → WrittenDate → ℕ → Type 0
IsMidnight clock date moment =
    moment_nanos moment
    ≡ midnight_by clock.rule (days_from_civil (pos date.year) date.month date.day)
