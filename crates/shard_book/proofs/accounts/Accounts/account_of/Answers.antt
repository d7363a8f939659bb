use Rattle.std.proofs.Common.{sym}
use Rattle.shard_book.specs.inside.Accounts.{kept_at}
use Rattle.shard_book.proofs.accounts.Accounts.account_of.Goals as goal

pub returns-in-Some : goal.returns-in-Some
unfolding kept_at
returns-in-Some c = λ fares name taps kept.
    rw (c.further_of.ensures) (rw (sym c.in-Some.ensures.value) at kept)

pub returns-in-None : goal.returns-in-None
unfolding kept_at
returns-in-None c = λ fares name taps kept.
    let none = rw (sym c.in-None.ensures.value) at kept in
    rw none.0 (c.fresh.ensures.holds fares name)
