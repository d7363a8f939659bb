-- The account stands for the taps of the entries taken, and then for one tap more.
use Rattle.std.proofs.Common.{◌+◌, ◌∷◌, [], ◌++◌, List, map, ap, sym, subst, ◌∙◌, length-append}
use Rattle.account_rule.specs.declared.tap.TapIn.{TapIn}
use Rattle.fare_caps.specs.{CapMeanings.capped_rules_of, CappedReplies.capped_reason}
use Rattle.fare_caps.specs.Represents.{Represents, RepresentsSome}
use Rattle.fare_texts.proofs.Modes.{has_mode}
use Rattle.histories.specs.Entry.{tap_of}
use Rattle.std.proofs.lemmas.List.{map-append}
use Rattle.tap_views.specs.Token.{bytes_of}
use Rattle.fare_texts.proofs.explainer.Explainer.explain_next.Goals as goal

pub explain_step-reason-requires-clause-holds : goal.explain_step-reason-requires-clause-holds
unfolding RepresentsSome
explain_step-reason-requires-clause-holds c =
    rw c.bytes-bytes.ensures
    (map (tap_of c.args.table.now) c.requires.explained.0, c.requires.explained.1.holds)

pub returns-clause-reason : goal.returns-clause-reason
returns-clause-reason c = λ earlier explained.
    let of = capped_rules_of c.args.table.now (bytes_of c.args.self.now.token) in
    let taps = map (tap_of c.args.table.now) earlier in
    (rw c.bytes-bytes.ensures at c.explain_step-reason.ensures.reason) taps explained.holds
    ∙ ap (λ (t : TapIn). capped_reason of taps t) c.in_ok-tap.ensures.tap

pub returns-clause-mode : goal.returns-clause-mode
returns-clause-mode c =
    let taps = map (tap_of c.args.table.now) c.requires.explained.0 in
    let holds = c.requires.explained.1.holds in
    has_mode c.args.table.now (bytes_of c.args.self.now.token) c.args.self.now.account taps _ _
    holds ((rw c.bytes-bytes.ensures at c.explain_step-reason.ensures.reason) taps holds)

pub returns-clause-explained : goal.returns-clause-explained
returns-clause-explained c = λ earlier explained.
    let of = capped_rules_of c.args.table.now (bytes_of c.args.self.now.token) in
    let tap = tap_of c.args.table.now in
    let taps = map tap earlier in
    let longer = ap (λ (t : TapIn). taps ++ t ∷ []) c.in_ok-tap.ensures.tap
    ∙ sym (map-append tap earlier (c.args.entry.now ∷ [])) in
    record {
      holds = subst (λ (ts : List TapIn). Represents of c.explain_step-reason.new.self ts) longer
          ((rw c.bytes-bytes.ensures at c.explain_step-reason.ensures.holds) taps
          explained.holds);
      counted = ap (λ n. n + 1) explained.counted
          ∙ sym (length-append earlier (c.args.entry.now ∷ []));
      digits = explained.digits;
    }
