use Rattle.std.proofs.Common.{◌≡◌, true, false, sym, ap, ◌∙◌}
use Rattle.account_rule.proofs.FareLemmas.{free-few, ride-few}
use Rattle.account_rule.proofs.StepLemmas.{kept_given, kept_paid, reply_given, reply_paid}
use Rattle.account_rule.specs.{Kept.kept_numbers, Replies.ride_reply, Taps.live_at}
use Rattle.account_rule.specs.inside.Kept.{window_under}
use Rattle.account_rule.proofs.account.Account.live_step.Goals as goal

-- the last ride gives a transfer

pub returns-then-gives_transfer-clause-bounds : goal.returns-then-gives_transfer-clause-bounds
returns-then-gives_transfer-clause-bounds c =
    λ none. let both : true ≡ false = sym c.if-gives_transfer.true ∙ c.gives_transfer.ensures.gives
    ∙ none in cc

pub returns-then-gives_transfer-clause-few : goal.returns-then-gives_transfer-clause-few
returns-then-gives_transfer-clause-few c = free-few _ _ c.free.ensures

pub returns-then-gives_transfer-clause-reply : goal.returns-then-gives_transfer-clause-reply
returns-then-gives_transfer-clause-reply c =
    c.free.ensures
    ∙ sym (reply_given c.args.tariff.now.meaning c.args.clock.now (kept_numbers c.args.self.now)
    (live_at c.args.moment c.args.mode)
    (sym c.gives_transfer.ensures.gives ∙ c.if-gives_transfer.true))

pub returns-then-gives_transfer-clause-state : goal.returns-then-gives_transfer-clause-state
unfolding live_at
returns-then-gives_transfer-clause-state c =
    c.take_transfer.ensures.state
    ∙ sym (kept_given c.args.tariff.now.meaning c.args.clock.now (kept_numbers c.args.self.now)
    (live_at c.args.moment c.args.mode)
    (sym c.gives_transfer.ensures.gives ∙ c.if-gives_transfer.true))

-- it gives none

pub returns-clause-few : goal.returns-clause-few
returns-clause-few c =
    ride-few _ _ _ _ c.take_ride.ensures.bounds
    (c.to_ride.ensures ∙ ap ride_reply c.take_ride.ensures.cost)

pub returns-clause-reply : goal.returns-clause-reply
unfolding window_under live_at
returns-clause-reply c =
    c.to_ride.ensures
    ∙ ap ride_reply c.take_ride.ensures.cost
    ∙ sym (reply_paid c.args.tariff.now.meaning c.args.clock.now (kept_numbers c.args.self.now)
    (live_at c.args.moment c.args.mode)
    (sym c.gives_transfer.ensures.gives ∙ c.if-gives_transfer.false))

pub returns-clause-state : goal.returns-clause-state
unfolding window_under live_at
returns-clause-state c =
    c.take_ride.ensures.state
    ∙ sym (kept_paid c.args.tariff.now.meaning c.args.clock.now (kept_numbers c.args.self.now)
    (live_at c.args.moment c.args.mode)
    (sym c.gives_transfer.ensures.gives ∙ c.if-gives_transfer.false))
