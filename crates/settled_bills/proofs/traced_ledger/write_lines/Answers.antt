-- Each round explains a tap more.
use Rattle.std.proofs.Common.{◌+◌, ◌++◌, ℕ, List, [], ◌∷◌, arith, drop, refl, subst}
use Rattle.class_names.specs.Names.{class_by}
use Rattle.fare_texts.proofs.Beginnings.{goes_after}
use Rattle.settled_bills.proofs.Joined.{gone_begins, may_next}
use Rattle.settled_bills.proofs.TapsExplained.{explained_lines, explains_as, explains_none}
use Rattle.settled_bills.proofs.{TapsExplained.explains_then, TracedLines.GoesWith}
use Rattle.settled_bills.proofs.TracedLines.{goes_all, goes_put, taps_at, taps_more, traced_started}
use Rattle.settled_bills.specs.Columns.{columns_by, with_columns}
use Rattle.settled_bills.specs.inside.ExplainedTaps.{Explains, HaveLines}
use Rattle.settled_bills.specs.{Traces.taps_of_trace, declared.trace.TracedTap.TracedTap}
use Rattle.std.proofs.lemmas.{List.take_all, Result.err_from_is_err_and}
use Rattle.std.specs.Io.KnownBytes.{Appends}
use Rattle.tap_views.specs.declared.encoder.TapFields.{TapFields}
use Rattle.settled_bills.proofs.traced_ledger.write_lines.Goals as goal

pub loop-traced-init : goal.loop-traced-init
loop-traced-init g c =
    explains_none c.args.table.now c.args.explainer.now _
    (λ rest. goes_after (g.W.Write.contents c.args.out.now) c.args.room.now.lines.items _ _ refl)

pub put-requires-clause-may : goal.put-requires-clause-may
put-requires-clause-may g c =
    let trace = c.args.trace.now in
    let i = c.loop-traced.traced-index in
    may_next (_ ∷ []) (taps_of_trace (drop (i + 1) trace))
    (taps_at trace i _ c.loop-traced-test.true) c.loop-traced.invariant c.requires.may

pub loop-traced-preserved : goal.loop-traced-preserved
loop-traced-preserved g c =
    let trace = c.args.trace.now in
    subst (λ (ts : List TapFields). Explains c.args.table.now c.args.explainer.now ts
    c.put.new.explainer (GoesWith (class_by c.args.names.now) trace
    (g.W.Write.contents c.args.out.now) c.args.room.now.lines.items
    (g.W.Write.contents c.pass_piece.new.out) c.put.new.self.lines.items c.in-Ok.rest.now))
    (taps_more trace c.loop-traced.traced-index _ c.loop-traced-test.true)
    (explains_then _ _ _ _ _ _ _ _ _ c.loop-traced.invariant c.in-Ok.ensures
    (λ l m gone puts. goes_put _ _ _ _ _ _ _ _ _ _ _ l m gone c.in_ok-pass_piece.ensures.gone
    puts))

pub returns-clause-ok : goal.returns-clause-ok
returns-clause-ok g c =
    let trace = c.args.trace.now in
    let said : List ℕ → Type 0 = λ lines. Appends (g.W.Write.contents c.args.out.now)
    (g.W.Write.contents c.write_out.new.out)
    (c.args.room.now.lines.items ++ with_columns lines (columns_by (class_by c.args.names.now) trace))
    in
    subst (λ (ts : List TracedTap). HaveLines c.args.table.now c.args.explainer.now
    (taps_of_trace ts) said)
    (take_all c.loop-traced.traced-index trace (omega (arith, c.loop-traced-test.false)))
    (explained_lines _ _ _ _ said (explains_as _ _ _ _ _ said c.loop-traced.invariant
    (λ l gone. goes_all _ _ _ _ _ _ _ _ l gone
    (rw c.deref.ensures.value at c.in_ok-write_out.ensures.ok))))

-- ---- what a write that failed left
pub returns-in_err-pass_piece-clause-started : goal.returns-in_err-pass_piece-clause-started
returns-in_err-pass_piece-clause-started g c =
    let p = err_from_is_err_and c.from_residual.result c.from_residual.ensures.1 in
    rw p.1 (traced_started _ _ _ _ _ _ c.loop-traced.traced-index _ _ _ _ _
    c.loop-traced.invariant c.in_err-pass_piece.ensures.started)

pub returns-in_default-clause-started : goal.returns-in_default-clause-started
returns-in_default-clause-started g c =
    traced_started _ _ _ _ _ _ c.loop-traced.traced-index _ _ _ _ _ c.loop-traced.invariant
    (gone_begins _ _ _ _ c.in_ok-pass_piece.ensures.gone)

pub returns-in_err-write_out-clause-started : goal.returns-in_err-write_out-clause-started
returns-in_err-write_out-clause-started g c =
    let p = err_from_is_err_and c.from_residual-in_err-write_out.result
    c.from_residual-in_err-write_out.ensures.1 in
    rw p.1 (traced_started _ _ _ _ _ _ c.loop-traced.traced-index _ _ _ _ _
    c.loop-traced.invariant (rw c.deref.ensures.value at c.in_err-write_out.ensures.started))
