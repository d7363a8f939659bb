-- What contracts see of `Replies`.
use Rattle.std.specs.Prelude.{ℕ, List}
use Rattle.account_rule.specs.declared.reply.Reply.{Reply}

-- the replies, and for how many more there is room
pub record RepliesView : Type 0 where
  pub items : List Reply
  pub spare : ℕ
