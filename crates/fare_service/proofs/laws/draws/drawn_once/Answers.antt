use Rattle.fare_service.proofs.DrawnUploads.{each_drawn_once}
use Rattle.fare_service.proofs.laws.draws.drawn_once.Goals as goal

pub returns : goal.returns
returns c = λ fares shards files works outcome is upload end at reported.
    each_drawn_once fares shards files works outcome is upload end at reported
