-- Each round explains a tap more.
use Rattle.std.proofs.Common.{◌+◌, List, [], ◌∷◌, arith, drop, string_bytes, subst, sym}
use Rattle.std.proofs.lemmas.List.{take-append-drop, take_all, take_more}
use Rattle.std.proofs.lemmas.Result.{err_from_is_err_and}
use Rattle.fare_texts.specs.WrittenOut.{GoesOut}
use Rattle.fare_texts.proofs.Beginnings.{goes_grown, goes_nothing, goes_passed, goes_then_on}
use Rattle.tap_views.specs.declared.encoder.TapFields.{TapFields}
use Rattle.settled_bills.specs.inside.ExplainedTaps.{Explains}
use Rattle.settled_bills.proofs.Joined.{around, gone_begins, may_next}
use Rattle.settled_bills.proofs.TapsExplained.{explained_lines, explains_none, explains_then}
use Rattle.settled_bills.proofs.TapsExplained.{lines_front}
use Rattle.settled_bills.proofs.lines.write_taps.Goals as goal

pub loop-tap-init : goal.loop-tap-init
loop-tap-init g c =
    explains_none c.args.table.now c.args.explainer.now _
    (goes_nothing (g.W.Write.contents c.args.out.now) (string_bytes c.args.text.now))

pub explain_tap-requires-clause-may : goal.explain_tap-requires-clause-may
explain_tap-requires-clause-may g c =
    may_next (_ ∷ []) (drop (c.loop-tap.tap-index + 1) c.args.taps.now)
    (around c.args.taps.now c.loop-tap.tap-index _ c.loop-tap-test.true) c.loop-tap.invariant
    c.requires.may

pub loop-tap-preserved : goal.loop-tap-preserved
loop-tap-preserved g c =
    subst (λ (ts : List TapFields). Explains c.args.table.now c.args.explainer.now ts
    c.explain_tap.new.explainer (GoesOut (g.W.Write.contents c.args.out.now)
    (string_bytes c.args.text.now) (g.W.Write.contents c.pass_piece.new.out)
    (string_bytes c.explain_tap.new.text)))
    (sym (take_more c.args.taps.now c.loop-tap.tap-index _ c.loop-tap-test.true))
    (explains_then _ _ _ _ _ _ _ _ _ c.loop-tap.invariant c.in-Ok.ensures
    (λ l m gone grown. goes_grown _ _ _ _ _ l m
    (goes_passed _ _ _ _ _ _ l gone c.in_ok-pass_piece.ensures.gone) grown))

pub returns-clause-explained : goal.returns-clause-explained
returns-clause-explained g c =
    subst (λ (ts : List TapFields). Explains c.args.table.now c.args.explainer.now ts
    c.loop-tap.explainer (GoesOut (g.W.Write.contents c.args.out.now)
    (string_bytes c.args.text.now) (g.W.Write.contents c.loop-tap.out)
    (string_bytes c.loop-tap.text)))
    (take_all c.loop-tap.tap-index c.args.taps.now (omega (arith, c.loop-tap-test.false)))
    c.loop-tap.invariant

-- ---- what a write that failed left
pub returns-in_err-pass_piece-clause-started : goal.returns-in_err-pass_piece-clause-started
returns-in_err-pass_piece-clause-started g c =
    let p = err_from_is_err_and c.from_residual.result c.from_residual.ensures.1 in
    rw p.1 (lines_front _ _ _ _ _ _ _ (take-append-drop c.loop-tap.tap-index c.args.taps.now)
    (explained_lines _ _ _ _ _ c.loop-tap.invariant)
    (λ l m gone. goes_then_on _ _ _ _ _ l m gone c.in_err-pass_piece.ensures.started))

pub returns-in_default-clause-started : goal.returns-in_default-clause-started
returns-in_default-clause-started g c =
    lines_front _ _ _ _ _ _ _ (take-append-drop c.loop-tap.tap-index c.args.taps.now)
    (explained_lines _ _ _ _ _ c.loop-tap.invariant)
    (λ l m gone. goes_then_on _ _ _ _ _ l m gone
    (gone_begins _ _ _ _ c.in_ok-pass_piece.ensures.gone))
