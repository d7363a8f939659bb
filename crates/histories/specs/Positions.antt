-- Counts by the places of answers.
use Rattle.account_rule.specs.declared.reply.Answer.{Answer, TheVariants.Paid}
use Rattle.account_rule.specs.declared.reply.Answer.TheVariants.{Transfer, Capped, Stale, Unknown}
use Rattle.std.specs.Prelude.{ℕ, ◌+◌, List, slice_index}

-- the place of an answer's count
abbrev pub count_position : Answer → ℕ
count_position Paid = 0
count_position Transfer = 1
count_position Capped = 2
count_position Stale = 3
count_position Unknown = 4

-- all taps of five counts
abbrev pub all_of : List ℕ → ℕ
all_of counts =
    slice_index counts 0 + slice_index counts 1 + slice_index counts 2 + slice_index counts 3
    + slice_index counts 4
