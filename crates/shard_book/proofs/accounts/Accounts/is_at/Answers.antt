use Rattle.std.proofs.Common.{sym, ap, ◌≡◌, ◌∙◌, arith}
use Rattle.indexmap.specs.IndexMap.{get}
use Rattle.shard_book.proofs.AccountsLemmas.{at_position}
use Rattle.tap_views.proofs.TokenLemmas.{same_token}
use Rattle.tap_views.specs.{Token.token_eq, declared.token.Token.Token}
use Rattle.shard_book.proofs.accounts.Accounts.is_at.Goals as goal

pub returns-in-Some : goal.returns-in-Some
returns-in-Some c = λ is.
    let same : c.in-Some.there.now ≡ c.args.token =
    same_token c.in-Some.there.now c.args.token (grind arith) in
    at_position c.args.self.now c.args.token c.in-Some.there.now c.args.position
    c.in-Some.field-0-1.now
    same (sym c.in-Some.ensures.entry)
    (ap (λ (t : Token). get token_eq c.args.self.now.map t) (sym same) ∙ c.in-Some.ensures.value)
