use Rattle.fare_texts.proofs.LocalLemmas.{local_is}
use Rattle.fare_texts.proofs.local.local_at.Goals as goal

pub returns-in-Some : goal.returns-in-Some
returns-in-Some c =
    local_is c.args.clock.now.rule c.in-Some.offset c.args.moment c.clock_text.result.bytes
    c.if-moment-ge-CALENDAR_END_MS.false c.in-Some.ensures c.clock_text.ensures
