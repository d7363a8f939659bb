-- Kept: what private functions alone cite.
use Rattle.account_rule.specs.{Kept.Kept, Kept.kept_trip, Replies.reply_with, Replies.ride_reply}
use Rattle.account_rule.specs.{Taps.LiveTap, TokenRules.TransferRules, Trips.TripEnd}
use Rattle.account_rule.specs.Windows.{charge, charged_by, is_paid, paid_by}
use Rattle.account_rule.specs.declared.reason.Reason.{Reason, TheVariants.Ride}
use Rattle.account_rule.specs.declared.reply.{Answer.TheVariants.Transfer, Reply.Reply}
use Rattle.account_rule.specs.declared.tap.TapIn.{TapIn}
use Rattle.account_rule.specs.declared.window.{Window.Window, WindowView.WindowView}
use Rattle.std.specs.Prelude.{ℕ, ◌+◌, ◌-◌, Bool, false, ◌&&◌, if◌then◌else◌, min, nat_le, nat_lt}
use Rattle.std.specs.Prelude.{Option, Some, None}
use Rattle.tariffs.specs.{ClockView.ClockView, Fares.is_permitted, Fares.ride_terms}
use Rattle.tariffs.specs.{Fares.transfer_terms, TableMeaning.TableMeaning, Until.window_end_in}
use Rattle.tariffs.specs.declared.{mode.Mode.Mode, terms.Terms.Terms}

-- whether the trip, if there is one, gives a transfer to the tap
unfoldable pub gives : TransferRules → Option TripEnd → LiveTap → Bool
gives rules None tap = false
gives rules (Some trip) tap =
    nat_lt trip.given (rules.count tap)
    && nat_le (tap.moment - trip.ride.moment) (rules.time tap)
    && rules.permits trip.last.mode tap

-- what one meaning says of transfers, at each tap: as many as the rides of the class give, within
-- their time, if the pair of modes is permitted
unfoldable pub transfers_in : TableMeaning → ℕ → TransferRules
transfers_in meaning class = record {
  count = λ tap. (transfer_terms meaning class).taps;
  time = λ tap. (transfer_terms meaning class).time;
  permits = λ from tap. is_permitted meaning from.position tap.mode.position;
}

-- what its owner sees of a window
unfoldable pub shown_of : Window → WindowView
shown_of window =
    record { start = window.start; until = window.until; paid = window.paid; cents = window.cents }

-- a window with no ride yet
unfoldable pub open_window : ℕ → ℕ → Window
open_window start until = record { start = start; until = until; cents = 0; rides = 0; paid = 0 }

-- the window to which a ride at the moment belongs: the kept one, or one that it opens
unfoldable pub window_at : Option Window → ℕ → ℕ → Window
window_at None moment until = open_window moment until
window_at (Some window) moment until =
    if nat_lt moment window.until then window else open_window moment until

-- the window with one more ride
unfoldable pub with_ride : Terms → Window → Window
with_ride terms window = record window {
  rides = min (window.rides + 1) 60_000;
  paid = window.paid + (if is_paid (charge terms window.rides window.cents) then 1 else 0);
  cents = window.cents + charged_by (charge terms window.rides window.cents);
}

-- the tap of this moment, at a validator of this mode
unfoldable pub known_tap : ℕ → Mode → TapIn
known_tap moment mode = record { moment = moment; mode = Some mode }

-- the window of a live tap that is a ride, by what is kept and what one meaning says
unfoldable pub window_under : TableMeaning → ClockView → Kept → LiveTap → Window
window_under meaning clock state tap =
    window_at (Some state.window) tap.moment (window_end_in clock meaning.window tap.moment)

-- the reply to a live tap, where the kept class is the token's in the meaning
unfoldable pub reply_under : TableMeaning → ClockView → Kept → LiveTap → Reply
reply_under meaning clock state tap =
    if gives (transfers_in meaning state.class) (kept_trip (Some state)) tap
    then reply_with Transfer 0
    else ride_reply (paid_by (charge (ride_terms meaning state.class tap.mode.position)
    (window_under meaning clock state tap).rides (window_under meaning clock state tap).cents))

-- what is kept after the tap
unfoldable pub kept_under : TableMeaning → ClockView → Kept → LiveTap → Kept
kept_under meaning clock state tap =
    if gives (transfers_in meaning state.class) (kept_trip (Some state)) tap
    then record state { last = tap; given = state.given + 1 }
    else record {
      last = tap;
      ride = tap;
      given = 0;
      class = state.class;
      window = with_ride (ride_terms meaning state.class tap.mode.position)
          (window_under meaning clock state tap);
    }

-- why the window's next ride is answered as it is
unfoldable pub next_reason : Terms → Window → Reason
next_reason terms window = Ride window.start window.until (charge terms window.rides window.cents)
