-- The reply follows from the reason.
use Rattle.std.proofs.Common.{ap, ◌∙◌}
use Rattle.fare_caps.specs.CappedReplies.{capped_reply, replied_by}
use Rattle.fare_caps.proofs.capped_account.CappedAccount.capped_step.Goals as goal

pub returns-clause-reply : goal.returns-clause-reply
unfolding capped_reply
returns-clause-reply c = λ taps holds.
    c.reply.ensures ∙ ap replied_by (c.explain_step.ensures.reason taps holds)
