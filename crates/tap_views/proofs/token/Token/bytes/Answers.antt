use Rattle.std.proofs.Common.{refl}
use Rattle.tap_views.specs.Token.{bytes_of}
use Rattle.tap_views.proofs.token.Token.bytes.Goals as goal

pub returns : goal.returns
unfolding bytes_of
returns c = rw (c.to_be_bytes-high.ensures, c.to_be_bytes-low.ensures) refl
