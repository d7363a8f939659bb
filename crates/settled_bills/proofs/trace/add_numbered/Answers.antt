use Rattle.std.proofs.Common.{◌+◌, ◌++◌, ◌∙◌, ◌∷◌, [], List, ap, append_assoc, get_or, sym, take}
use Rattle.settled_bills.proofs.Numbering.{numbered_more}
use Rattle.settled_bills.specs.{Traces.numbered, declared.trace.TracedTap.TracedTap}
use Rattle.tap_views.specs.declared.encoder.TapFields.{TapFields}
use Rattle.settled_bills.proofs.trace.add_numbered.Goals as goal

pub loop-index-preserved : goal.loop-index-preserved
loop-index-preserved c =
    let old = c.args.taps.now.items in
    let list = c.args.list.now in
    let i = c.loop-index.index in
    let none : TapFields = record { token = []; validator = 0; moment = 0 } in
    let one : TracedTap =
    record { tap = get_or list i none; upload = c.args.upload; position = i + 1 } in
    c.in_ok-push.ensures.items ∙ ap (λ (ts : List TracedTap). ts ++ one ∷ []) c.loop-index.invariant
    ∙ append_assoc old (numbered c.args.upload 1 (take i list)) (one ∷ [])
    ∙ ap (λ (ts : List TracedTap). old ++ ts)
    (sym (numbered_more c.args.upload list i none c.loop-index-test.true))
