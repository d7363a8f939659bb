use Rattle.std.proofs.Common.{refl}
use Rattle.shard_book.proofs.{AccountsLemmas.made_before, PackedLemmas.keep_same}
use Rattle.shard_book.proofs.accounts.Accounts.position.Goals as goal

pub returns-then-is_at-clause-made : goal.returns-then-is_at-clause-made
returns-then-is_at-clause-made c =
    made_before c.args.self.now c.args.token c.args.known (c.is_at.ensures c.if-is_at.true)

pub returns-then-is_at-clause-positions : goal.returns-then-is_at-clause-positions
returns-then-is_at-clause-positions c = keep_same refl
