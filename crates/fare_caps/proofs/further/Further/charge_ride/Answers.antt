-- The numbers leave room at each step: what the caps leave bounds what the ride costs.
use Rattle.tariffs.specs.Until.{window_end_in}
use Rattle.fare_caps.proofs.FurtherLemmas.{charge-cents, charge-room, room-all, trip-room}
use Rattle.fare_caps.proofs.further.Further.charge_ride.Goals as goal

pub charge-charge-requires-clause-room : goal.charge-charge-requires-clause-room
charge-charge-requires-clause-room c =
    rw c.open.ensures (room-all c.args.clock.now c.args.moment
    (window_end_in c.args.clock.now c.window_span.result c.args.moment) c.said-said.result
    c.args.self.now c.requires.room).window

pub count-requires-clause-room : goal.count-requires-clause-room
count-requires-clause-room c =
    rw c.open.ensures (room-all c.args.clock.now c.args.moment
    (window_end_in c.args.clock.now c.window_span.result c.args.moment) c.said-said.result
    c.args.self.now c.requires.room)

pub count-requires-clause-few : goal.count-requires-clause-few
count-requires-clause-few c =
    rw c.charge-charge.ensures (charge-cents c.ride_terms-terms.result c.said-said.result
    c.open.new.self c.ride_terms-terms.ensures.bounds)

pub returns-clause-few : goal.returns-clause-few
returns-clause-few c =
    rw c.charge-charge.ensures (charge-cents c.ride_terms-terms.result c.said-said.result
    c.open.new.self c.ride_terms-terms.ensures.bounds)

pub returns-clause-room : goal.returns-clause-room
returns-clause-room c =
    rw (c.count.ensures, c.charge-charge.ensures, c.open.ensures)
    (trip-room c.ride_terms-terms.result.fare c.args.mode _ c.ride_terms-terms.ensures.bounds.fare
    (charge-room c.ride_terms-terms.result c.said-said.result _ c.ride_terms-terms.ensures.bounds
    (room-all c.args.clock.now c.args.moment
    (window_end_in c.args.clock.now c.window_span.result c.args.moment) c.said-said.result
    c.args.self.now c.requires.room) c.said-said.ensures.bounds))
