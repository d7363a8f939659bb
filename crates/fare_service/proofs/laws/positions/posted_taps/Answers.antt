use Rattle.fare_service.proofs.{GatheredWork.Given, HeadlineLemmas.gathered_of}
use Rattle.fare_service.proofs.PlacingLemmas.{posted_reported}
use Rattle.fare_service.proofs.laws.positions.posted_taps.Goals as goal

pub returns : goal.returns
returns c = λ fares shards files works outcome headline upload end at.
    let given : Given = record { table = fares; shards = shards; uploads = files } in
    posted_reported given works outcome (gathered_of given works outcome headline) upload end at
