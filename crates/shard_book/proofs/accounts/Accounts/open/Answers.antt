use Rattle.std.proofs.Common.{◌<◌, rules, ◌∙◌, length, arith}
use Rattle.indexmap.specs.IndexMap.{insert_index}
use Rattle.shard_book.proofs.AccountsLemmas.{index-within, keep_found, keep_opened, made_found}
use Rattle.shard_book.proofs.AccountsLemmas.{made_last}
use Rattle.shard_book.specs.{declared.accounts.KeptAccount.KeptAccount, inside.Accounts.kept_at}
use Rattle.tap_views.specs.Token.{token_eq}
use Rattle.shard_book.proofs.accounts.Accounts.open.Goals as goal

pub overflow_cast-result : goal.overflow_cast-result
unfolding kept_at
overflow_cast-result c =
    let within : insert_index token_eq c.args.self.now.map c.args.token < length
    c.args.self.now.map.entries =
    index-within c.args.self.now c.args.token
    (rw c.in-Occupied.is at c.in_ok-kept.ensures.found).0 in
    let index = c.index.ensures ∙ (rw c.in-Occupied.is at c.in_ok-kept.ensures.index) in
    omega (arith, c.len-last.ensures.len)

pub returns-in-Occupied-clause-made : goal.returns-in-Occupied-clause-made
unfolding kept_at
returns-in-Occupied-clause-made c =
    made_found c.args.self.now _ c.args.token _ (search rules)
    (rw c.in-Occupied.is at c.in_ok-kept.ensures.found).0
    (c.index.ensures ∙ (rw c.in-Occupied.is at c.in_ok-kept.ensures.index))

pub returns-in-Occupied-clause-positions : goal.returns-in-Occupied-clause-positions
returns-in-Occupied-clause-positions c = keep_found c.args.self.now.map.entries _ (search rules)

pub returns-in-Vacant-clause-made : goal.returns-in-Vacant-clause-made
unfolding kept_at
returns-in-Vacant-clause-made c =
    let fresh : KeptAccount = record { account = c.fresh.result.account; counts = c.new.result } in
    made_last c.args.self.now _ c.args.token _ fresh c.len-last.ensures.len
    (rw c.in-Vacant.is at c.in_ok-kept.ensures.found) (search rules) (search rules)
    (λ fares name. rw (← c.fresh.ensures.further) (c.fresh.ensures.holds fares name)) c.new.ensures

pub returns-in-Vacant-clause-positions : goal.returns-in-Vacant-clause-positions
unfolding kept_at
returns-in-Vacant-clause-positions c =
    let fresh : KeptAccount = record { account = c.fresh.result.account; counts = c.new.result } in
    keep_opened c.args.self.now _ c.args.token fresh
    (rw c.in-Vacant.is at c.in_ok-kept.ensures.found) (search rules)
