-- The order of the keys of a table of the text.
use Rattle.std.specs.Prelude.{◌&&◌, Bool, true}
use Rattle.toml.specs.Data.{Members, no_members, member, is_before}

-- the keys are in byte order, none twice
abbrev pub in_byte_order : Members → Bool
in_byte_order no_members = true
in_byte_order (member key value more) = is_before key more && in_byte_order more
