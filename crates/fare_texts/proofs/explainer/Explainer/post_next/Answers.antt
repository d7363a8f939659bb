-- The account stands for the taps of the entries taken, and then for one tap more. The reply is the
-- one that follows from the reason.
use Rattle.std.proofs.Common.{◌≡◌, ℕ, ◌+◌, ◌∷◌, [], ◌++◌, List, Option, map, option_map, refl, ap}
use Rattle.std.proofs.Common.{sym, subst, ◌∙◌, length-append}
use Rattle.account_rule.specs.declared.reply.{Answer.TheVariants.Unknown, Reply.Reply}
use Rattle.account_rule.specs.declared.tap.TapIn.{TapIn}
use Rattle.fare_caps.proofs.AnswerLemmas.{capped-follows}
use Rattle.fare_caps.specs.CapMeanings.{capped_rules_of}
use Rattle.fare_caps.specs.CappedReplies.{capped_reason, capped_reply, replied_by}
use Rattle.fare_caps.specs.Represents.{Represents, RepresentsSome}
use Rattle.fare_texts.specs.{Explainers.HasExplained, LedgerLines.reason_after}
use Rattle.histories.proofs.Histories.{tap_of-post}
use Rattle.histories.specs.{Entry.tap_of, declared.entry.Entry.Entry}
use Rattle.std.proofs.lemmas.List.{map-append}
use Rattle.tap_views.specs.{Token.bytes_of, declared.token.Token.Token}
use Rattle.tariffs.specs.{Fares.Fares, Fares.mode_at, declared.mode.Mode.Mode}
use Rattle.fare_texts.proofs.explainer.Explainer.post_next.Goals as goal

-- a tap that was not taken
abbrev unreported : Token → ℕ → ℕ → Entry
unreported token validator moment = record {
  token = token;
  validator = validator;
  moment = moment;
  answer = Unknown;
  cents = 0;
}

-- the entry with a reply
abbrev with_reply : Entry → Reply → Entry
with_reply entry replied = record {
  token = entry.token;
  validator = entry.validator;
  moment = entry.moment;
  answer = replied.answer;
  cents = replied.cents;
}

-- the tap of an entry at the validator and the moment
same_tap : (fares : Fares) (entry : Entry) (mode : Option Mode) (validator moment : ℕ)
    → option_map (λ m. m.position) mode ≡ mode_at fares moment validator
    → entry.validator ≡ validator → entry.moment ≡ moment
    → record { moment = moment; mode = mode } ≡ tap_of fares entry
same_tap fares entry mode validator moment known at when =
    let moved = sym when in
    let known_at = sym at in
    sym (tap_of-post fares entry mode (known ∙ (λ i. mode_at fares (moved i) (known_at i)))
    ∙ ap (λ (m : ℕ). record { moment = m; mode = mode }) when)

pub explain_step-reason-requires-clause-holds : goal.explain_step-reason-requires-clause-holds
unfolding RepresentsSome
explain_step-reason-requires-clause-holds c =
    rw c.bytes-bytes.ensures
    (map (tap_of c.args.table.now) c.requires.explained.0, c.requires.explained.1.holds)

-- the reason is that of an entry with the validator and the moment
reason_of : (c : goal.After-entry-1) (earlier : List Entry) (entry : Entry)
    → HasExplained c.args.table.now c.args.self.now earlier
    → entry.validator ≡ c.args.validator → entry.moment ≡ c.args.moment
    → c.explain_step-reason.result
    ≡ reason_after c.args.table.now c.args.self.now.token earlier entry
reason_of c earlier entry explained at when =
    let of = capped_rules_of c.args.table.now (bytes_of c.args.self.now.token) in
    let taps = map (tap_of c.args.table.now) earlier in
    (rw c.bytes-bytes.ensures at c.explain_step-reason.ensures.reason) taps explained.holds
    ∙ ap (λ (t : TapIn). capped_reason of taps t) (same_tap c.args.table.now entry c.mode_of.result
    c.args.validator c.args.moment c.mode_of.ensures.mode at when)

pub returns-clause-entry : goal.returns-clause-entry
returns-clause-entry c = λ earlier explained.
    let fares = c.args.table.now in
    let token = c.args.self.now.token in
    let of = capped_rules_of fares (bytes_of token) in
    let taps = map (tap_of fares) earlier in
    let tap = unreported token c.args.validator c.args.moment in
    let replied : c.reply-reply.result ≡ capped_reply of taps (tap_of fares tap) =
    c.reply-reply.ensures ∙ ap (λ w. replied_by w) (reason_of c earlier tap explained refl refl)
    ∙ sym (capped-follows of taps (tap_of fares tap)) in
    ap (λ (r : Reply). with_reply tap r) replied

pub returns-clause-reason : goal.returns-clause-reason
returns-clause-reason c = λ earlier explained. reason_of c earlier _ explained refl refl

pub returns-clause-explained : goal.returns-clause-explained
returns-clause-explained c = λ earlier explained.
    let fares = c.args.table.now in
    let token = c.args.self.now.token in
    let of = capped_rules_of fares (bytes_of token) in
    let taps = map (tap_of fares) earlier in
    let entry = with_reply (unreported token c.args.validator c.args.moment) c.reply-reply.result in
    let longer = ap (λ (t : TapIn). taps ++ t ∷ []) (same_tap fares entry c.mode_of.result
    c.args.validator c.args.moment c.mode_of.ensures.mode refl refl)
    ∙ sym (map-append (tap_of fares) earlier (entry ∷ [])) in
    record {
      holds = subst (λ (ts : List TapIn). Represents of c.explain_step-reason.new.self ts) longer
          ((rw c.bytes-bytes.ensures at c.explain_step-reason.ensures.holds) taps
          explained.holds);
      counted = ap (λ n. n + 1) explained.counted ∙ sym (length-append earlier (entry ∷ []));
      digits = explained.digits;
    }
