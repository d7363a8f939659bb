use Rattle.std.proofs.Common.{◌≡◌, ap, sym, ◌∙◌}
use Rattle.shard_book.specs.declared.accounts.KeptAccount.{KeptAccount}
use Rattle.shard_book.specs.inside.Accounts.{capped_of, further_at}
use Rattle.shard_book.proofs.AccountsLemmas.{account-at, same-kept}
use Rattle.shard_book.proofs.accounts.Accounts.capped_at.Goals as goal

pub returns : goal.returns
returns c = λ kept is.
    let here : c.in-Some.kept.now ≡ kept =
    same-kept (sym (account-at c.args.self.now c.args.token c.args.position c.in-Some.kept.now
    c.requires (sym c.in-Some.ensures.entry)) ∙ is) in
    rw c.further_of.ensures
    (ap (λ (k : KeptAccount). capped_of k (further_at c.args.self.now c.args.token)) here)
