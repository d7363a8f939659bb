-- The keys `window` and `day_starts`: texts that say how long windows are, and when a day starts.
use Rattle.fare_table.specs.{Members.of_kind, OrFault.OrFault, OrFault.◌>>=◌}
use Rattle.std.specs.Option.{ok_or}
use Rattle.std.specs.Prelude.{ℕ, Option, Some, None, Ok, codes}
use Rattle.tariffs.specs.WindowSpan.{length_named, minutes_named}
use Rattle.tariffs.specs.declared.window_span.WindowLength.{WindowLength, TheVariants.Days}
use Rattle.tariffs.specs.declared.window_span.WindowSpan.{WindowSpan}
use Rattle.toml.specs.Data.{Data, Members, get_member, as_str}
use Rattle.fare_table.specs.declared.fault.Key.TheVariants as the_key
use Rattle.fare_table.specs.declared.fault.TableFault.TheVariants as the_fault

-- the length of windows that the value names, and seven days if there is none
abbrev pub length_in : Option Data → OrFault WindowLength
length_in None = Ok (Days 7)
length_in (Some value) = do
  text ← of_kind the_key.Window (as_str value)
  ok_or (length_named text) (the_fault.Range the_key.Window)

-- the minutes after 00:00 at which a day starts by the value, and none if there is none
abbrev pub day_start_in : Option Data → OrFault ℕ
day_start_in None = Ok 0
day_start_in (Some value) = do
  text ← of_kind the_key.DayStarts (as_str value)
  ok_or (minutes_named text) (the_fault.Range the_key.DayStarts)

-- the span of the windows of the text
unfoldable pub window_of : Members → OrFault WindowSpan
window_of tree = do
  length ← length_in (get_member (codes "window") tree)
  day_starts ← day_start_in (get_member (codes "day_starts") tree)
  Ok (record { length = length; day_starts = day_starts })
