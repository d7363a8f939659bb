-- A date and a time of day as a text writes them.
use Rattle.jiff_core.specs.declared.civil.datetime.DateTime.{DateTime}
use Rattle.jiff_fmt.specs.Temporal.{date_parts, time_parts}
use Rattle.tap_rows.specs.LocalTimes.{Written}

abbrev pub written_of : DateTime → Written
written_of time = (date_parts time.date, time_parts time.time)
