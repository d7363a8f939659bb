-- The step is taken on what stands at the token's place.
use Rattle.std.proofs.Common.{List, ap, slice_get, ◌∙◌}
use Rattle.tap_views.proofs.Choices.{OnErr_any}
use Rattle.tap_views.specs.declared.token.Token.{Token}
use Rattle.shard_book.proofs.AccountsLemmas.{kept-from, stays-still, steps-from, there-of}
use Rattle.shard_book.proofs.PackedLemmas.{keep_same, keep_then, token-at}
use Rattle.shard_book.proofs.accounts.Accounts.step.Goals as goal

pub returns-in_err-position-clause-err : goal.returns-in_err-position-clause-err
returns-in_err-position-clause-err c =
    OnErr_any _ _ (stays-still c.args.self.now c.position.new.self c.in_err-position.ensures.err
    c.in_err-position.ensures.further)

pub plain_step-reply-requires-clause-there : goal.plain_step-reply-requires-clause-there
plain_step-reply-requires-clause-there c = there-of c.in_ok-position.ensures.made

pub plain_step-reply-requires-clause-kept : goal.plain_step-reply-requires-clause-kept
plain_step-reply-requires-clause-kept c =
    kept-from c.args.table.now c.args.self.now c.position.new.self c.args.token
    c.in_ok-position.position c.in_ok-position.ensures.made c.in_ok-position.ensures.further
    c.requires.kept

pub returns-clause-steps : goal.returns-clause-steps
returns-clause-steps c =
    steps-from c.args.table.now c.args.token c.args.tap c.args.self.now c.position.new.self
    c.plain_step-reply.new.self c.plain_step-reply.result c.in_ok-position.position
    c.in_ok-position.ensures.made c.in_ok-position.ensures.further
    c.in_ok-position.ensures.counting c.in_ok-position.ensures.others
    c.plain_step-reply.ensures.steps

pub returns-clause-position : goal.returns-clause-position
returns-clause-position c =
    ap (λ (tokens : List Token). slice_get tokens c.in_ok-position.position)
    c.plain_step-reply.ensures.tokens
    ∙ token-at c.position.new.self.map.entries c.in_ok-position.position c.args.token _
    c.in_ok-position.ensures.made.at

pub returns-clause-positions : goal.returns-clause-positions
returns-clause-positions c =
    keep_then c.in_ok-position.ensures.positions (keep_same c.plain_step-reply.ensures.tokens)
