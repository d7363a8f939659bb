use Rattle.tap_views.proofs.encoder.encode.Goals as goal

pub returns-clause-batch : goal.returns-clause-batch
returns-clause-batch c = let (batch, text, encoded) = c.in_ok-put_batch.ensures in
    rw (text, c.in_ok-bytes.ensures.items) encoded
