use Rattle.std.proofs.Common.{◌∙◌, ap₂}
use Rattle.fare_program.specs.Listing.{IsListingOf, counted}
use Rattle.fare_program.proofs.listing.Listing.add.Goals as goal

pub returns-clause-listed : goal.returns-clause-listed
returns-clause-listed c = λ taps is.
    let before : IsListingOf
    (record { last = c.self.inside.last.entries; counts = c.self.inside.counts }) taps
    = rw c.self.view_is is in
    let (says, last) = c.in_ok-liveness.ensures.listed taps before.last in (
      says,
      record {
        last = last;
        counts = c.count.ensures ∙ ap₂ counted before.counts says;
      },
    )
