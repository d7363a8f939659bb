use Rattle.std.proofs.Common.{subst}
use Rattle.tap_views.specs.Encoding.{Encodes}
use Rattle.tap_rows.proofs.GrowingLemmas.{grown_batch}
use Rattle.tap_rows.proofs.growing.Growing.put_waiting.Goals as goal

pub returns-clause-grown : goal.returns-clause-grown
returns-clause-grown c = λ taps is.
    let (batch, put, encodes) = c.in_ok-put_batch.ensures in
    grown_batch c.args.self.now _ taps batch is put
    (subst (Encodes batch) c.deref.ensures.value encodes) c.clear.ensures.items
