-- The numbers leave room: what the caps leave bounds what the transfer costs.
use Rattle.std.proofs.Common.{sym, ◌∙◌}
use Rattle.fare_caps.proofs.FurtherLemmas.{extra-room}
use Rattle.fare_caps.proofs.further.Further.charge_transfer.Goals as goal

pub count_cents-requires-clause-few : goal.count_cents-requires-clause-few
count_cents-requires-clause-few c =
    rw c.cents.ensures
    (extra-room c.ride_terms-terms.result c.said-said.result c.transfer-extra.new.self
    c.transfer-extra.result c.in_ok-charge.charge c.ride_terms-terms.ensures.bounds
    c.transfer-extra.ensures.few c.transfer-extra.ensures.room c.said-said.ensures.bounds
    (sym c.in_ok-charge.was ∙ c.charge_extra.ensures)).few

pub returns-clause-few : goal.returns-clause-few
returns-clause-few c =
    (extra-room c.ride_terms-terms.result c.said-said.result c.transfer-extra.new.self
    c.transfer-extra.result c.in_ok-charge.charge c.ride_terms-terms.ensures.bounds
    c.transfer-extra.ensures.few c.transfer-extra.ensures.room c.said-said.ensures.bounds
    (sym c.in_ok-charge.was ∙ c.charge_extra.ensures)).few

pub returns-clause-room : goal.returns-clause-room
returns-clause-room c =
    rw (c.count_cents.ensures, c.cents.ensures)
    (extra-room c.ride_terms-terms.result c.said-said.result c.transfer-extra.new.self
    c.transfer-extra.result c.in_ok-charge.charge c.ride_terms-terms.ensures.bounds
    c.transfer-extra.ensures.few c.transfer-extra.ensures.room c.said-said.ensures.bounds
    (sym c.in_ok-charge.was ∙ c.charge_extra.ensures)).room
