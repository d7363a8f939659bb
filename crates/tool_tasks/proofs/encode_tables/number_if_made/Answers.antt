use Rattle.std.proofs.{Common.refl, lemmas.Result.on_ok_weaker}
use Rattle.tool_tasks.proofs.encode_tables.number_if_made.Goals as goal

pub returns : goal.returns
returns c = on_ok_weaker c.number_each.result
    (λ numbered. rw c.if-not-words.false (_, refl, numbered)) c.number_each.ensures
