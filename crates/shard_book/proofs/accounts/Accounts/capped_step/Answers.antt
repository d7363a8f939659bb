-- The step is taken on what stands at the token's place and beside it, and written there.
use Rattle.std.proofs.Common.{ℕ, List, [], ◌∷◌, ap, arith, length, ◌∙◌, refl, sym}
use Rattle.fare_caps.specs.Represents.{RepresentsSome, no_further}
use Rattle.histories.specs.Sums.{Sums, add_sums, sums_of_replies}
use Rattle.indexmap.proofs.CallerLemmas.{keys-with_value_at}
use Rattle.shard_book.proofs.AccountsLemmas.{account-at, kept-capped, stays-beside, written}
use Rattle.shard_book.specs.declared.accounts.{Accounts.Accounts, KeptAccount.KeptAccount}
use Rattle.shard_book.specs.inside.Accounts.{counted, further_at, kept_at}
use Rattle.std.specs.Option.{unwrap_or}
use Rattle.tap_views.proofs.{Choices.OnErr_any, TokenBytes.token_length}
use Rattle.shard_book.proofs.accounts.Accounts.capped_step.Goals as goal

pub step-reply-requires-clause-token : goal.step-reply-requires-clause-token
step-reply-requires-clause-token c =
    ap (λ (bytes : List ℕ). length bytes) c.requires.bytes ∙ token_length c.args.token

pub step-reply-requires-clause-holds : goal.step-reply-requires-clause-holds
unfolding RepresentsSome
step-reply-requires-clause-holds c =
    rw (c.requires.bytes, c.capped_at-account.ensures _ c.requires.there.is) (
      c.requires.kept.0,
      kept-capped c.args.table.now c.args.self.now c.args.token c.args.position c.requires.kept.0
          c.requires.there c.requires.kept.1,
    )

-- an allocation failed: all stayed
pub returns-in_err-insert-clause-err : goal.returns-in_err-insert-clause-err
returns-in_err-insert-clause-err c =
    let next : Accounts = record c.args.self.now { further = c.insert.new.self } in
    OnErr_any _ _ (stays-beside c.args.self.now next refl c.in_err-insert.ensures.err)

pub returns-clause-steps : goal.returns-clause-steps
unfolding kept_at further_at
returns-clause-steps c =
    let table = c.args.table.now in
    let token = c.args.token in
    let next : KeptAccount =
    record { account = c.step-reply.new.self.account; counts = c.add-was_added.new.self } in
    let there = account-at c.args.self.now token c.args.position _ c.requires.there
    c.pair_mut-kept.ensures.value in
    let now = written c.args.self.now c.args.position token _ next c.pair_mut-kept.ensures.unique
    c.requires.there.at in
    let beside = c.in_ok-insert.ensures.updates in
    record {
      reply = λ taps kept.
          (rw (c.requires.bytes, c.capped_at-account.ensures _ c.requires.there.is)
          at c.step-reply.ensures.reply) taps
          (kept-capped table c.args.self.now token c.args.position taps c.requires.there kept);
      kept = λ taps kept. rw (now.1, beside.1)
          ((rw (c.requires.bytes, c.capped_at-account.ensures _ c.requires.there.is)
          at c.step-reply.ensures.holds) taps
          (kept-capped table c.args.self.now token c.args.position taps c.requires.there kept));
      counted = λ counting. ap counted now.1
          ∙ c.add-was_added.ensures.added (grind arith)
          ∙ ap (λ (s : Sums). add_sums s (sums_of_replies (c.step-reply.result ∷ [])))
          (ap counted (sym there));
      counting = λ counting. grind arith;
      few = c.step-reply.ensures.few;
      others = λ other apart. record {
        kept = now.2 other apart;
        further = ap (λ o. unwrap_or o no_further) (beside.2 other apart);
      };
    }

pub returns-clause-tokens : goal.returns-clause-tokens
returns-clause-tokens c =
    keys-with_value_at c.args.self.now.map c.args.position
    (record { account = c.step-reply.new.self.account; counts = c.add-was_added.new.self })
