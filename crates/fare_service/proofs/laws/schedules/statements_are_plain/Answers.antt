use Rattle.std.proofs.Common.{ℕ, ◌<◌, Vec, Global, length, map, arith}
use Rattle.fare_service.proofs.PlainUploads.{same_own, same_statement}
use Rattle.fare_service.proofs.laws.schedules.statements_are_plain.Goals as goal

pub returns-clause-entries : goal.returns-clause-entries
returns-clause-entries c = λ fares shards history whole.
    let files = map (λ (upload : Vec ℕ Global). upload.items) c.args.uploads.now in
    let some : 0 < length c.args.outcome.now.books =
    omega (arith, c.shards.ensures.some, c.shards.ensures.number) in
    same_own (record { table = fares; shards = shards; uploads = files }) c.args.outcome.now history
    some c.tokens_are_named.ensures.named c.unique_parse_each.ensures whole

pub returns-clause-texts : goal.returns-clause-texts
returns-clause-texts c = λ fares shards history whole.
    let files = map (λ (upload : Vec ℕ Global). upload.items) c.args.uploads.now in
    let some : 0 < length c.args.outcome.now.books =
    omega (arith, c.shards.ensures.some, c.shards.ensures.number) in
    same_statement (record { table = fares; shards = shards; uploads = files }) c.args.outcome.now
    history some c.tokens_are_named.ensures.named c.unique_parse_each.ensures whole
