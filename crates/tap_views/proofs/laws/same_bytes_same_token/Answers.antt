use Rattle.tap_views.proofs.TokenLemmas.{bytes_of-injective}
use Rattle.tap_views.proofs.laws.same_bytes_same_token.Goals as goal

pub returns : goal.returns
returns c = bytes_of-injective
