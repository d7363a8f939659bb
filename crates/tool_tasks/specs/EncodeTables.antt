-- What `encode` reads beside an agency's rows: the key of tokens, and the zone of local times.
use Rattle.jiff_core.specs.declared.error.{Error.TheVariants.Tzif as TzifError, TzifFault.TzifFault}
use Rattle.jiff_tz.specs.{PosixReader.read_whole, PosixText.tz_view, Tzif.IsParseFailure}
use Rattle.jiff_tz.specs.{Tzif.tzif_view, TzifReader.read_tzif, declared.timezone.TimeZone.TimeZone}
use Rattle.jiff_tz.specs.declared.tzif.Tzif.{Tzif}
use Rattle.std.specs.{Char.is_ascii_alphanumeric, List.list_all}
use Rattle.std.specs.Prelude.{◌≡◌, ◌⊎◌, ◌==◌, ◌||◌, ◌&&◌, ◌++◌, ℕ, Bool, List, None, Ok, Option}
use Rattle.std.specs.Prelude.{Some, codes, false, if◌then◌else◌, is_none, true}
use Rattle.tap_rows.specs.Keys.{key_of}
use Rattle.tap_rows.specs.declared.agency.choice.{Fold.Fold, LocalClock.LocalClock}
use Rattle.jiff_tz.specs.declared.timezone.TimeZone.TheVariants as zones

-- the key that the text of a file has, if it has a word, and its block
abbrev pub IsKey : Option (List ℕ) → List ℕ → Option (List ℕ) → Type 0
IsKey None text None = Unit {0}
IsKey (Some word) text (Some block) = key_of text ≡ Ok block
IsKey word text block = ⊥

-- a byte of the name of a zone: there is no dot, so that a name is of a file below the folder
abbrev pub is_name_byte : ℕ → Bool
is_name_byte byte = is_ascii_alphanumeric byte
    || (byte == 95 || (byte == 43 || (byte == 45 || byte == 47)))

abbrev pub is_zone_name : List ℕ → Bool
is_zone_name word = list_all is_name_byte word

-- the file of the zone of this name
abbrev pub zone_file : List ℕ → List ℕ
zone_file word = codes "/usr/share/zoneinfo/" ++ word

-- the file that is loaded for a zone: that of its name, if it is a name and no rule
abbrev pub zone_loaded : Option (List ℕ) → Option (List ℕ)
zone_loaded None = None
zone_loaded (Some word) =
    if is_none (read_whole word) && is_zone_name word then Some (zone_file word) else None

-- the word is no rule but a name, and the text of its file has this table
abbrev pub IsTableOf : (word text : List ℕ) → Tzif → Type 0
IsTableOf word text table = (read_whole word ≡ None) × (is_zone_name word ≡ true)
    × (read_tzif text ≡ Ok (tzif_view table))

-- the zone is the rule that the word writes, or that table
abbrev pub IsZone : (word text : List ℕ) → TimeZone → Type 0
IsZone word text (zones.Posix rule) = read_whole word ≡ Some (tz_view rule)
IsZone word text (zones.Tzif table) = IsTableOf word text table.now
IsZone word text zone = ⊥

-- the clock, if its zone has a word, is of this fold and of that zone
abbrev pub IsClock : Option (List ℕ) → Fold → List ℕ → Option LocalClock → Type 0
IsClock None fold text None = Unit {0}
IsClock (Some word) fold text (Some clock) = (clock.fold ≡ fold) × IsZone word text clock.zone
IsClock word fold text clock = ⊥

-- there is a word, and it has no zone: it is neither a rule nor a name, or its file is none
abbrev pub HasNoZone : Option (List ℕ) → List ℕ → Type 0
HasNoZone None text = ⊥
HasNoZone (Some word) text = (read_whole word ≡ None) × ((is_zone_name word ≡ false)
    ⊎ ((is_zone_name word ≡ true) × (fault : TzifFault) × IsParseFailure (TzifError fault) text))
