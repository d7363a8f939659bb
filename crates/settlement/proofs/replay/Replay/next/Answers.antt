use Rattle.std.proofs.Common.{◌≡◌, List, ◌∷◌, ◌++◌, cond, ap, sym, subst, ◌∙◌, []}
use Rattle.account_rule.specs.declared.{reply.Reply.Reply, tap.TapIn.TapIn}
use Rattle.fare_caps.specs.{CapMeanings.capped_rules_of, CappedReplies.capped_reply}
use Rattle.fare_caps.specs.Represents.{Represents, RepresentsSome}
use Rattle.histories.proofs.Histories.{tap_of-post, taps-push}
use Rattle.histories.specs.Entry.{tap_of, taps_of}
use Rattle.histories.specs.{Plain.answered, Plain.with_reply, declared.entry.Entry.Entry}
use Rattle.settlement.specs.{Posted.unposted, Replays.HasPosted}
use Rattle.tap_views.proofs.TokenLemmas.{token_eq-refl}
use Rattle.tap_views.specs.{Token.bytes_of, declared.token.Token.Token}
use Rattle.settlement.proofs.replay.Replay.next.Goals as goal

pub step-reply-requires-clause-holds : goal.step-reply-requires-clause-holds
unfolding RepresentsSome HasPosted
step-reply-requires-clause-holds c =
    rw c.named_bytes-bytes.ensures.bytes
    (taps_of c.args.table.now c.args.self.now.token c.requires.posted.0, c.requires.posted.1)

pub returns-clause-entry : goal.returns-clause-entry
unfolding HasPosted answered
returns-clause-entry c = λ earlier posted.
    let fares = c.args.table.now in
    let token = c.args.self.now.token in
    let tap = unposted c.args.tap.now in
    let of = capped_rules_of fares (bytes_of token) in
    let taps = taps_of fares token earlier in
    let replied : c.step-reply.result ≡ capped_reply of taps (tap_of fares tap) =
    (rw c.named_bytes-bytes.ensures.bytes at c.step-reply.ensures.reply) taps posted
    ∙ ap (λ (t : TapIn). capped_reply of taps t)
    (sym (tap_of-post fares (unposted c.args.tap.now) c.args.mode c.requires.mode)) in
    let named : Entry = record {
      token = token;
      validator = tap.validator;
      moment = tap.moment;
      answer = tap.answer;
      cents = tap.cents;
    } in
    ap (λ (r : Reply). with_reply named r) replied
    ∙ ap (λ (t : Token). with_reply (record {
      token = t;
      validator = tap.validator;
      moment = tap.moment;
      answer = tap.answer;
      cents = tap.cents;
    }) (capped_reply (capped_rules_of fares (bytes_of t)) (taps_of fares t earlier)
    (tap_of fares tap)))
    (sym c.requires.its)

pub returns-clause-posted : goal.returns-clause-posted
unfolding HasPosted tap_of
returns-clause-posted c = λ earlier posted.
    let fares = c.args.table.now in
    let token = c.args.self.now.token in
    let of = capped_rules_of fares (bytes_of token) in
    let taps = taps_of fares token earlier in
    let longer = ap (λ (t : TapIn). taps ++ t ∷ [])
    (sym (tap_of-post fares (unposted c.args.tap.now) c.args.mode c.requires.mode))
    ∙ sym (taps-push fares token earlier _
    ∙ ap (λ b. cond b (taps ++ tap_of fares (unposted c.args.tap.now) ∷ []) taps)
    (token_eq-refl token)) in
    subst (λ (ts : List TapIn). Represents of c.step-reply.new.self ts) longer
    ((rw c.named_bytes-bytes.ensures.bytes at c.step-reply.ensures.holds) taps posted)
