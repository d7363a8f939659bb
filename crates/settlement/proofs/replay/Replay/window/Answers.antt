use Rattle.tap_views.specs.Token.{bytes_of}
use Rattle.histories.specs.Entry.{taps_of}
use Rattle.settlement.specs.Replays.{HasPosted}
use Rattle.settlement.proofs.replay.Replay.window.Goals as goal

pub returns : goal.returns
unfolding HasPosted
returns c = λ entries posted.
    c.window.ensures.window (bytes_of c.args.self.now.token)
    (taps_of c.args.table.now c.args.self.now.token entries) posted
