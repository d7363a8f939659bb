use Rattle.std.proofs.Common.{ℕ, ◌<◌, Vec, Global, length, map, arith}
use Rattle.fare_service.proofs.PlainSums.{same_report}
use Rattle.fare_service.proofs.laws.schedules.report_is_plain.Goals as goal

pub returns : goal.returns
returns c = λ fares shards history whole.
    let files = map (λ (upload : Vec ℕ Global). upload.items) c.args.uploads.now in
    let some : 0 < length c.args.outcome.now.books =
    omega (arith, c.shards.ensures.some, c.shards.ensures.number) in
    same_report (record { table = fares; shards = shards; uploads = files }) c.args.outcome.now
    history some c.tokens_are_named.ensures.named c.tokens_are_named.ensures.here
    c.unique_parse_each.ensures whole c.one_increasing_list.ensures.numbers
    c.one_increasing_list.ensures.tokens
