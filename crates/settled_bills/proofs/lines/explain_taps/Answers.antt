-- Each round explains one tap more.
use Rattle.std.proofs.Common.{◌≡◌, ◌+◌, ◌++◌, ◌∷◌, List, [], drop, string_bytes}
use Rattle.std.proofs.Common.{sym, ap, subst, ◌∙◌, append_assoc, append-nil}
use Rattle.std.proofs.lemmas.List.{take_more}
use Rattle.tap_views.specs.declared.encoder.TapFields.{TapFields}
use Rattle.settled_bills.specs.inside.ExplainedTaps.{Explains}
use Rattle.settled_bills.proofs.Joined.{around, may_next}
use Rattle.settled_bills.proofs.TapsExplained.{explains_none, explains_then}
use Rattle.settled_bills.proofs.lines.explain_taps.Goals as goal

pub loop-tap-init : goal.loop-tap-init
loop-tap-init c =
    explains_none c.args.table.now c.args.explainer.now
    (λ lines. string_bytes c.args.text.now ≡ string_bytes c.args.text.now ++ lines)
    (sym (append-nil (string_bytes c.args.text.now)))

pub explain_tap-requires-clause-may : goal.explain_tap-requires-clause-may
explain_tap-requires-clause-may c =
    may_next (_ ∷ []) (drop (c.loop-tap.tap-index + 1) c.args.taps.now)
    (around c.args.taps.now c.loop-tap.tap-index _ c.loop-tap-test.true) c.loop-tap.invariant
    c.requires.may

pub loop-tap-preserved : goal.loop-tap-preserved
loop-tap-preserved c =
    let text = string_bytes c.args.text.now in
    subst (λ (ts : List TapFields). Explains c.args.table.now c.args.explainer.now ts
    c.explain_tap.new.explainer (λ lines. string_bytes c.explain_tap.new.text ≡ text ++ lines))
    (sym (take_more c.args.taps.now c.loop-tap.tap-index _ c.loop-tap-test.true))
    (explains_then _ _ _ _ _ _ _ _ _ c.loop-tap.invariant c.in_ok-explain_tap.ensures
    (λ l m before grown. grown ∙ ap (λ t. t ++ m) before ∙ append_assoc text l m))
