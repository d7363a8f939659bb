use Rattle.shard_book.proofs.SummedLemmas.{summed-kept}
use Rattle.shard_book.proofs.accounts.Accounts.push_counts.Goals as goal

pub returns-clause-summed : goal.returns-clause-summed
returns-clause-summed c =
    λ entries counts. summed-kept c.args.self.now entries c.iter-kept_tokens.ensures.unique counts

pub returns-in_err-reserve-clause-summed : goal.returns-in_err-reserve-clause-summed
returns-in_err-reserve-clause-summed c =
    λ entries counts. summed-kept c.args.self.now entries c.iter-kept_tokens.ensures.unique counts

pub returns-in_err-push-clause-summed : goal.returns-in_err-push-clause-summed
returns-in_err-push-clause-summed c =
    λ entries counts. summed-kept c.args.self.now entries c.iter-kept_tokens.ensures.unique counts
