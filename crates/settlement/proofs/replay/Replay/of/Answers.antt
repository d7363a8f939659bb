use Rattle.std.proofs.Common.{List, map, ap, sym, subst}
use Rattle.account_rule.specs.declared.tap.TapIn.{TapIn}
use Rattle.fare_caps.specs.{CapMeanings.capped_rules_of, Represents.Represents}
use Rattle.histories.specs.Entry.{tap_of, taps_of}
use Rattle.settlement.specs.Replays.{HasPosted}
use Rattle.tap_views.specs.Token.{bytes_of}
use Rattle.settlement.proofs.replay.Replay.of.Goals as goal

pub returns-clause-none : goal.returns-clause-none
unfolding HasPosted taps_of
returns-clause-none c = λ fares earlier none.
    let rules = capped_rules_of fares (bytes_of c.args.token) in
    subst (λ (ts : List TapIn). Represents rules c.fresh.result ts)
    (sym (ap (map (tap_of fares)) none))
    (c.fresh.ensures.holds fares (bytes_of c.args.token))
