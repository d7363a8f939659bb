use Rattle.std.proofs.Common.{◌<◌, length, arith}
use Rattle.fare_service.proofs.{GatheredWork.Given, HeadlineLemmas.gathered_of}
use Rattle.fare_service.proofs.PlainEnds.{plain_ends}
use Rattle.fare_service.proofs.laws.schedules.uncut_ends_are_plain.Goals as goal

pub returns : goal.returns
returns c = λ fares shards uploads works headline whole.
    let given : Given = record { table = fares; shards = shards; uploads = uploads } in
    let some : 0 < length c.args.outcome.now.books =
    omega (arith, c.shards.ensures.some, c.shards.ensures.number) in
    plain_ends given works c.args.outcome.now some
    (gathered_of given works c.args.outcome.now headline) whole
