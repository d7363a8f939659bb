use Rattle.std.proofs.Common.{ap, arith}
use Rattle.account_rule.specs.declared.reply.Answer.TheVariants.{Unknown}
use Rattle.histories.specs.declared.entry.Entry.{Entry}
use Rattle.tap_views.specs.{Token.bytes_of, declared.token.Token.Token}
use Rattle.fare_service.proofs.spot.nothing.Goals as goal

abbrev zero : Token
zero = record { high = 0; low = 0 }

abbrev with_token : Token → Entry
with_token token = record { token = token; validator = 0; moment = 0; answer = Unknown; cents = 0 }

pub returns : goal.returns
unfolding bytes_of
returns c =
    ap with_token
    (c.same_bytes_same_token.ensures c.of-token.result zero c.of-token.ensures.fits
    (record { high = omega arith; low = omega arith }) c.of-token.ensures.bytes)
