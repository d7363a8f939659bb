-- What one more byte adds to a ghost copy.
use Rattle.world.specs.GhostBytes.{BytesView, no_bytes, with_byte}
use Rattle.world.specs.declared.ghost_bytes.Copying.{Copying, TheVariants.Start, TheVariants.Byte}

abbrev pub after_byte : Copying → BytesView
after_byte Start = no_bytes
after_byte (Byte before byte) = with_byte before.value byte.value
