-- A fresh account stands for no taps, under whatever rules.
use Rattle.std.proofs.Common.{[], refl}
use Rattle.account_rule.specs.Blocks.{blocks_by, last_block}
use Rattle.account_rule.specs.Kept.{is_after, kept_of, kept_trip, kept_window}
use Rattle.account_rule.specs.Represents.{Represents, RepresentsSome, window_of}
use Rattle.account_rule.specs.{Taps.is_later, Taps.live, Taps.live_after, Trips.last_trip}
use Rattle.account_rule.specs.{Trips.rides, Trips.trip_of, Trips.trips, Windows.windows}
use Rattle.account_rule.proofs.account.Account.fresh.Goals as goal

pub returns-clause-holds : goal.returns-clause-holds
unfolding Represents is_after is_later kept_of kept_trip last_trip trip_of kept_window window_of
    windows
    rides trips live live_after blocks_by last_block
returns-clause-holds c = λ rules. record {
  last = λ moment. refl;
  trip = refl;
  order = λ trip some. cc;
  window = refl;
  class = λ state some. cc;
  mode = λ trip some. cc;
  ride_mode = λ trip some. cc;
  room = λ window some. cc;
}

pub returns-clause-some : goal.returns-clause-some
unfolding RepresentsSome
returns-clause-some c = λ rules. ([], returns-clause-holds c rules)
