-- The key `zone`: a text, and the rule that it reads as.
use Rattle.fare_table.specs.{Members.of_kind, OrFault.OrFault, OrFault.◌>>=◌}
use Rattle.jiff.specs.Words.{read_whole, tz_view}
use Rattle.jiff_tz.specs.declared.posix.TimeZone.{TimeZone as PosixRule}
use Rattle.std.specs.Option.{is_some}
use Rattle.std.specs.Prelude.{◌≡◌, ℕ, List, Option, Some, None, Ok, Err, codes, if◌then◌else◌}
use Rattle.toml.specs.Data.{Data, Members, get_member, as_str}
use Rattle.fare_table.specs.declared.fault.Key.TheVariants as the_key
use Rattle.fare_table.specs.declared.fault.TableFault.TheVariants as the_fault

-- the rule is what the zone's text reads as, and there is none without a text
abbrev pub IsZoneOf : Option (List ℕ) → Option PosixRule → Type 0
IsZoneOf None None = Unit {0}
IsZoneOf None (Some zone) = ⊥
IsZoneOf (Some text) None = ⊥
IsZoneOf (Some text) (Some zone) = read_whole text ≡ Some (tz_view zone)

-- the text of a zone, if it reads as a rule
abbrev pub zone_in : Option Data → OrFault (Option (List ℕ))
zone_in None = Ok None
zone_in (Some value) = do
  text ← of_kind the_key.Zone (as_str value)
  if is_some (read_whole text) then Ok (Some text) else Err the_fault.Zone

-- the zone that the text names, if it names one
unfoldable pub zone_of : Members → OrFault (Option (List ℕ))
zone_of tree = zone_in (get_member (codes "zone") tree)
