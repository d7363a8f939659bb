-- One reply more at the place of its answer.
use Rattle.std.proofs.Common.{◌≡◌, ℕ, ◌+◌, List, [], ◌∷◌, length, set, arith}
use Rattle.account_rule.specs.declared.reply.Answer.{Answer, TheVariants.Paid}
use Rattle.account_rule.specs.declared.reply.Answer.TheVariants.{Transfer, Capped, Stale, Unknown}
use Rattle.account_rule.specs.declared.reply.Reply.{Reply}
use Rattle.histories.proofs.SumsLemmas.{same_seven}
use Rattle.histories.specs.{Positions.count_position, Sums.sums_of_replies, Sums.add_sums}
use Rattle.histories.specs.Tally.{sums_of_positions}
use Rattle.std.specs.Prelude.{slice_index}

-- the count at the answer's place is one more, and the cents are the reply's more
pub tallied : (counts : List ℕ) (cents : ℕ) (reply : Reply) → length counts ≡ 5
    → sums_of_positions
    (set counts (count_position reply.answer)
    (slice_index counts (count_position reply.answer) + 1))
    (cents + reply.cents) ≡ add_sums (sums_of_positions counts cents) (sums_of_replies (reply ∷ []))
unfolding sums_of_replies
tallied (a ∷ b ∷ c ∷ d ∷ e ∷ []) cents reply long = by_answer reply.answer reply.cents
  where
    by_answer : (answer : Answer) (more : ℕ)
        → sums_of_positions
        (set (a ∷ b ∷ c ∷ d ∷ e ∷ []) (count_position answer)
        (slice_index (a ∷ b ∷ c ∷ d ∷ e ∷ []) (count_position answer) + 1)) (cents + more)
        ≡ add_sums (sums_of_positions (a ∷ b ∷ c ∷ d ∷ e ∷ []) cents)
        (sums_of_replies (record { answer = answer; cents = more } ∷ []))
    by_answer Paid more =
        same_seven (omega arith) (omega arith) (omega arith)
        (omega arith) (omega arith) (omega arith) (omega arith)
    by_answer Transfer more =
        same_seven (omega arith) (omega arith) (omega arith)
        (omega arith) (omega arith) (omega arith) (omega arith)
    by_answer Capped more =
        same_seven (omega arith) (omega arith) (omega arith)
        (omega arith) (omega arith) (omega arith) (omega arith)
    by_answer Stale more =
        same_seven (omega arith) (omega arith) (omega arith)
        (omega arith) (omega arith) (omega arith) (omega arith)
    by_answer Unknown more =
        same_seven (omega arith) (omega arith) (omega arith)
        (omega arith) (omega arith) (omega arith) (omega arith)
tallied [] cents reply long = absurd (omega (arith, long))
tallied (a ∷ []) cents reply long = absurd (omega (arith, long))
tallied (a ∷ b ∷ []) cents reply long = absurd (omega (arith, long))
tallied (a ∷ b ∷ c ∷ []) cents reply long = absurd (omega (arith, long))
tallied (a ∷ b ∷ c ∷ d ∷ []) cents reply long = absurd (omega (arith, long))
tallied (a ∷ b ∷ c ∷ d ∷ e ∷ f ∷ more) cents reply long = absurd (omega (arith, long))
