-- The step is taken on what stands at the token's place, and written there.
use Rattle.std.proofs.Common.{ℕ, List, [], ◌∷◌, ◌++◌, ap, arith, length, sym, ◌∙◌, refl}
use Rattle.fare_caps.proofs.ExplainLemmas.{empty-holds, empty-reply}
use Rattle.histories.specs.Sums.{Sums, add_sums, sums_of_replies}
use Rattle.indexmap.proofs.CallerLemmas.{keys-with_value_at}
use Rattle.shard_book.proofs.AccountsLemmas.{account-at, kept-plain, written}
use Rattle.shard_book.specs.declared.accounts.KeptAccount.{KeptAccount}
use Rattle.shard_book.specs.inside.Accounts.{counted, further_at, kept_at}
use Rattle.tap_views.proofs.TokenBytes.{token_length}
use Rattle.tap_views.specs.Token.{bytes_of}
use Rattle.account_rule.specs.Represents as plain
use Rattle.shard_book.proofs.accounts.Accounts.plain_step.Goals as goal

pub step-reply-requires-clause-token : goal.step-reply-requires-clause-token
step-reply-requires-clause-token c =
    ap (λ (bytes : List ℕ). length bytes) c.requires.bytes ∙ token_length c.args.token

pub step-reply-requires-clause-holds : goal.step-reply-requires-clause-holds
unfolding plain.RepresentsSome
step-reply-requires-clause-holds c =
    rw c.requires.bytes (
      c.requires.kept.0,
      kept-plain c.args.table.now c.args.self.now c.args.token c.args.position
          _ c.requires.kept.0 c.requires.there
          c.pair_mut-kept.ensures.value c.requires.kept.1,
    )

pub returns-clause-steps : goal.returns-clause-steps
unfolding kept_at further_at
returns-clause-steps c =
    let table = c.args.table.now in
    let token = c.args.token in
    let next : KeptAccount =
    record { account = c.step-reply.new.self; counts = c.add-was_counted.new.self } in
    let there = account-at c.args.self.now token c.args.position _
    c.requires.there c.pair_mut-kept.ensures.value in
    let now = written c.args.self.now c.args.position token _ next c.pair_mut-kept.ensures.unique
    c.requires.there.at in
    record {
      reply = λ taps kept.
          (rw c.requires.bytes at c.step-reply.ensures.reply) taps
          (kept-plain table c.args.self.now token c.args.position _ taps
          c.requires.there c.pair_mut-kept.ensures.value kept)
          ∙ sym (empty-reply table (bytes_of token) taps c.args.tap c.requires.none);
      kept = λ taps kept. rw now.1
          (empty-holds table (bytes_of token) c.step-reply.new.self _
          (taps ++ c.args.tap ∷ []) c.requires.none
          ((rw c.requires.bytes at c.step-reply.ensures.holds) taps
          (kept-plain table c.args.self.now token c.args.position _ taps
          c.requires.there c.pair_mut-kept.ensures.value kept)));
      counted = λ counting. ap counted now.1
          ∙ c.add-was_counted.ensures.added (grind arith)
          ∙ ap (λ (s : Sums). add_sums s (sums_of_replies (c.step-reply.result ∷ [])))
          (ap counted (sym there));
      counting = λ counting. grind arith;
      few = c.step-reply.ensures.few;
      others = λ other apart. record { kept = now.2 other apart; further = refl };
    }

pub returns-clause-tokens : goal.returns-clause-tokens
returns-clause-tokens c =
    keys-with_value_at c.args.self.now.map c.args.position
    (record { account = c.step-reply.new.self; counts = c.add-was_counted.new.self })
