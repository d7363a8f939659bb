use Rattle.std.proofs.Common.{◌≡◌, take}
use Rattle.settlement.specs.{Posted.posted, Replays.HasPosted}
use Rattle.settled_bills.proofs.one_token.post.Given as goal

-- the first taps are posted
abbrev pub invariant-loop-tap : goal.invariant-loop-tap
invariant-loop-tap l = record {
  token : l.replay.token ≡ l.fn.token;
  holds : HasPosted l.table l.replay (posted l.table (take l.tap-index l.taps));
  entries : l.entries.items ≡ posted l.table (take l.tap-index l.taps);
}
