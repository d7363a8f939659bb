use Rattle.std.proofs.Common.{arith}
use Rattle.tap_views.specs.{Token.bytes_of, declared.token.Token.Token}
use Rattle.settlement.proofs.open_bill.least_token.Goals as goal

abbrev zero : Token
zero = record { high = 0; low = 0 }

pub returns : goal.returns
unfolding bytes_of
returns c =
    c.same_bytes_same_token.ensures c.of.result zero c.of.ensures.fits
    (record { high = omega arith; low = omega arith }) c.of.ensures.bytes
