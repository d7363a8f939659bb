use Rattle.std.proofs.Common.{ap, refl, sym, ◌∙◌}
use Rattle.tap_views.specs.Token.{bytes_of}
use Rattle.settlement.proofs.TokenRuns.{named_token}
use Rattle.settlement.proofs.replay.named_bytes.Goals as goal

pub returns-clause-bytes : goal.returns-clause-bytes
returns-clause-bytes c =
    let named = named_token c.args.tap.now _ _ refl c.of-named.ensures.bytes
    c.of-named.ensures.fits in
    sym c.of-named.ensures.bytes ∙ ap bytes_of (sym named) ∙ ap bytes_of c.requires
