use Rattle.std.proofs.Common.{refl}
use Rattle.tap_rows.proofs.GrowingLemmas.{grown_tap}
use Rattle.tap_rows.proofs.growing.Growing.wait.Goals as goal

pub returns : goal.returns
returns c = λ taps is.
    grown_tap c.args.self.now _ taps c.args.tap is c.requires.room c.requires.early refl
    c.in_ok-push.ensures.items
