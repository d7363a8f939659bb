-- Each turn writes one list more.
use Rattle.std.proofs.Common.{◌+◌, List, ◌++◌, drop, take, Vec, Global, string_bytes, sym, ap}
use Rattle.std.proofs.Common.{subst, ◌∙◌, arith}
use Rattle.fare_texts.proofs.Beginnings.{goes_nothing}
use Rattle.fare_texts.specs.WrittenOut.{GoesOut}
use Rattle.settled_bills.proofs.Joined.{explains_next, joined, joined_at, joined_more, may_next}
use Rattle.settled_bills.proofs.{Joined.started_next, TapsExplained.explains_none}
use Rattle.settled_bills.specs.inside.ExplainedTaps.{Explains}
use Rattle.std.proofs.lemmas.{List.take_all, Result.err_from_is_err_and}
use Rattle.tap_views.specs.declared.encoder.TapFields.{TapFields}
use Rattle.settled_bills.proofs.ledger.write_lists.Goals as goal

pub loop-list-init : goal.loop-list-init
loop-list-init g c =
    let out = g.W.Write.contents c.args.out.now in
    let text = string_bytes c.args.text.now in
    explains_none c.args.table.now c.args.explainer.now (GoesOut out text out text)
    (goes_nothing out text)

pub write_by_workers-requires-clause-may : goal.write_by_workers-requires-clause-may
write_by_workers-requires-clause-may g c κs within =
    let lists = c.args.lists.now in
    let position = c.loop-list.list-index in
    may_next c.deref.result.now (joined (drop (position + 1) lists))
    (ap (λ (ts : List TapFields). joined (take position lists)
    ++ (ts ++ joined (drop (position + 1) lists)))
    (c.deref.ensures.value ∙ ap (λ (v : Vec TapFields Global). v.items) c.list-item.is)
    ∙ joined_at lists position c.list-item.result c.loop-list-test.true)
    c.loop-list.invariant c.requires.may

pub returns-in_err-write_by_workers-clause-started :
    goal.returns-in_err-write_by_workers-clause-started
returns-in_err-write_by_workers-clause-started g c =
    let lists = c.args.lists.now in
    let position = c.loop-list.list-index in
    let p = err_from_is_err_and c.from_residual.result c.from_residual.ensures.1 in
    rw p.1 (started_next c.deref.result.now (joined (drop (position + 1) lists))
    (ap (λ (ts : List TapFields). joined (take position lists)
    ++ (ts ++ joined (drop (position + 1) lists)))
    (c.deref.ensures.value ∙ ap (λ (v : Vec TapFields Global). v.items) c.list-item.is)
    ∙ joined_at lists position c.list-item.result c.loop-list-test.true)
    c.loop-list.invariant c.in_err-write_by_workers.ensures.started)

pub loop-list-preserved : goal.loop-list-preserved
loop-list-preserved g c =
    let lists = c.args.lists.now in
    let position = c.loop-list.list-index in
    subst (λ (ts : List TapFields). Explains c.args.table.now c.args.explainer.now ts
    c.write_by_workers.new.explainer (GoesOut (g.W.Write.contents c.args.out.now)
    (string_bytes c.args.text.now) (g.W.Write.contents c.write_by_workers.new.out)
    (string_bytes c.write_by_workers.new.text)))
    (sym (joined_more lists position c.list-item.result c.loop-list-test.true
    ∙ ap (λ (ts : List TapFields). joined (take position lists) ++ ts)
    (sym (c.deref.ensures.value ∙ ap (λ (v : Vec TapFields Global). v.items) c.list-item.is))))
    (explains_next c.loop-list.invariant c.in_ok-write_by_workers.ensures.explained)

pub returns-clause-explained : goal.returns-clause-explained
returns-clause-explained g c =
    subst (λ (lists : List (Vec TapFields Global)). Explains c.args.table.now
    c.args.explainer.now (joined lists) c.loop-list.explainer
    (GoesOut (g.W.Write.contents c.args.out.now) (string_bytes c.args.text.now)
    (g.W.Write.contents c.loop-list.out) (string_bytes c.loop-list.text)))
    (take_all c.loop-list.list-index c.args.lists.now
    (omega (arith, c.loop-list-test.false))) c.loop-list.invariant
