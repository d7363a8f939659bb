use Rattle.std.proofs.Common.{List, [], take, get_or, refl, sym, subst}
use Rattle.std.proofs.lemmas.List.{take_more}
use Rattle.tap_views.specs.declared.encoder.TapFields.{TapFields}
use Rattle.settled_bills.specs.inside.Taken.{AreFollowing}
use Rattle.settled_bills.proofs.Takings.{one_follows}
use Rattle.settled_bills.proofs.taker.last_of.Goals as goal

pub loop-tap-preserved : goal.loop-tap-preserved
loop-tap-preserved c =
    let taps = c.args.taps.now in
    let at = c.loop-tap.tap-index in
    let no_tap : TapFields = record { token = []; validator = 0; moment = 0 } in
    let token = c.name_of-token.result in
    subst (λ (ts : List TapFields). AreFollowing c.args.last ts token)
    (sym (take_more taps at no_tap c.loop-tap-test.true))
    (one_follows c.args.last (take at taps) c.loop-tap.last (get_or taps at no_tap) token
    c.loop-tap.invariant (c.if-not-may_follow.ensures.early refl) c.name_of-token.ensures.named
    c.name_of-token.ensures.token (c.if-not-may_follow.ensures.up refl))
