-- The step is taken on what is stored at the token's index.
use Rattle.std.proofs.Common.{List, ap, slice_get, ◌∙◌}
use Rattle.tap_views.proofs.Choices.{OnErr_any}
use Rattle.tap_views.specs.declared.token.Token.{Token}
use Rattle.shard_book.proofs.AccountsLemmas.{kept-from, stays-still, steps-from, still-from}
use Rattle.shard_book.proofs.AccountsLemmas.{still-opened, there-of}
use Rattle.shard_book.proofs.PackedLemmas.{keep_same, keep_then, token-at}
use Rattle.shard_book.proofs.accounts.Accounts.step_under_caps.Goals as goal

pub returns-in_err-position-clause-err : goal.returns-in_err-position-clause-err
returns-in_err-position-clause-err c =
    OnErr_any _ _ (stays-still c.args.self.now c.position.new.self c.in_err-position.ensures.err
    c.in_err-position.ensures.further)

pub capped_step-requires-clause-there : goal.capped_step-requires-clause-there
capped_step-requires-clause-there c = there-of c.in_ok-position.ensures.made

pub capped_step-requires-clause-kept : goal.capped_step-requires-clause-kept
capped_step-requires-clause-kept c =
    kept-from c.args.table.now c.args.self.now c.position.new.self c.args.token
    c.in_ok-position.position c.in_ok-position.ensures.made c.in_ok-position.ensures.further
    c.requires.kept

pub returns-in_err-reply-clause-err : goal.returns-in_err-reply-clause-err
returns-in_err-reply-clause-err c =
    OnErr_any _ _ (still-from c.args.self.now c.position.new.self c.capped_step.new.self
    (still-opened c.args.self.now c.position.new.self c.args.token c.in_ok-position.position
    c.in_ok-position.ensures.made c.in_ok-position.ensures.further c.in_ok-position.ensures.others)
    c.in_err-reply.ensures.err)

pub returns-in_err-reply-clause-positions : goal.returns-in_err-reply-clause-positions
returns-in_err-reply-clause-positions c =
    keep_then c.in_ok-position.ensures.positions (keep_same c.in_err-reply.ensures.tokens)

pub returns-clause-steps : goal.returns-clause-steps
returns-clause-steps c =
    steps-from c.args.table.now c.args.token
    (record { moment = c.args.moment; mode = c.args.mode }) c.args.self.now c.position.new.self
    c.capped_step.new.self c.in_ok-reply.reply c.in_ok-position.position
    c.in_ok-position.ensures.made c.in_ok-position.ensures.further
    c.in_ok-position.ensures.counting c.in_ok-position.ensures.others c.in_ok-reply.ensures.steps

pub returns-clause-position : goal.returns-clause-position
returns-clause-position c =
    ap (λ (tokens : List Token). slice_get tokens c.in_ok-position.position)
    c.in_ok-reply.ensures.tokens
    ∙ token-at c.position.new.self.map.entries c.in_ok-position.position c.args.token _
    c.in_ok-position.ensures.made.at

pub returns-clause-positions : goal.returns-clause-positions
returns-clause-positions c =
    keep_then c.in_ok-position.ensures.positions (keep_same c.in_ok-reply.ensures.tokens)
