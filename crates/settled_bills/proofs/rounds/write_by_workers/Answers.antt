-- Each turn writes what is before a slot's taps, and then its lines.
use Rattle.std.proofs.Common.{List, drop, length, string_bytes, subst, sym, arith}
use Rattle.fare_texts.proofs.Beginnings.{goes_nothing}
use Rattle.fare_texts.specs.WrittenOut.{GoesOut}
use Rattle.settled_bills.proofs.Joined.{explains_between, may_next, started_next}
use Rattle.settled_bills.proofs.TapsExplained.{explains_none}
use Rattle.settled_bills.proofs.rounds.write_by_workers.Goals.{then-slot+then-done-slot+in_ok-write_taps+in_ok-write_slot}
use Rattle.settled_bills.proofs.rounds.write_by_workers.Goals.{else-slot}
use Rattle.settled_bills.specs.inside.ExplainedTaps.{Explains}
use Rattle.std.proofs.lemmas.{List.take_all, List.Edits.split_between, Result.err_from_is_err_and}
use Rattle.std.specs.{List.between, Prelude.slice_index_or}
use Rattle.tap_views.specs.declared.encoder.TapFields.{TapFields}
use Rattle.settled_bills.proofs.rounds.write_by_workers.Goals as goal

pub sit-requires-clause-sound : goal.sit-requires-clause-sound
sit-requires-clause-sound g c κs within = record {
  early = c.requires.may.early;
  from = c.args.explainer.now.token;
  nondecreasing = c.requires.may.nondecreasing;
}

pub loop-position-init : goal.loop-position-init
loop-position-init g c =
    let out = g.W.Write.contents c.args.out.now in
    let text = string_bytes c.args.text.now in
    record {
      inside = omega arith;
      explained = explains_none c.args.table.now c.args.explainer.now (GoesOut out text out text)
          (goes_nothing out text);
    }

-- ---- what is before the slot's taps
pub write_taps-requires-clause-may : goal.write_taps-requires-clause-may
write_taps-requires-clause-may g c =
    let taps = c.args.taps.now in
    let slot = slice_index_or c.sit.new.slots c.loop-position.position c.index-slots-position.result
    in
    let done = c.loop-position.done in
    let up = c.if-done-slot.true in
    may_next (between done slot.begin taps) (drop slot.begin taps)
    (sym (split_between taps done slot.begin (omega (arith, up))))
    c.loop-position.invariant.explained c.requires.may

pub returns-in_err-write_taps-clause-started : goal.returns-in_err-write_taps-clause-started
returns-in_err-write_taps-clause-started g c =
    let taps = c.args.taps.now in
    let slot = slice_index_or c.sit.new.slots c.loop-position.position c.index-slots-position.result
    in
    let done = c.loop-position.done in
    let up = c.if-done-slot.true in
    let p = err_from_is_err_and c.from_residual.result c.from_residual.ensures.1 in
    rw p.1 (started_next (between done slot.begin taps) (drop slot.begin taps)
    (sym (split_between taps done slot.begin (omega (arith, up))))
    c.loop-position.invariant.explained c.in_err-write_taps.ensures.started)

-- ---- the slot's taps
pub write_slot-requires-clause-may : goal.write_slot-requires-clause-may
write_slot-requires-clause-may g c =
    let taps = c.args.taps.now in
    let slot = slice_index_or c.sit.new.slots c.loop-position.position c.index-slots-position.result
    in
    let up = c.if-done-slot.true in
    let sat = c.sit.ensures c.loop-position.position c.index-slots-position.result
    c.loop-position-test.true c.if-slot.true in
    may_next (between slot.begin slot.end taps) (drop slot.end taps)
    (sym (split_between taps slot.begin slot.end sat.0))
    (explains_between taps c.loop-position.done slot.begin (omega (arith, up))
    c.loop-position.invariant.explained c.in_ok-write_taps.ensures.explained) c.requires.may

pub returns-in_err-write_slot-clause-started : goal.returns-in_err-write_slot-clause-started
returns-in_err-write_slot-clause-started g c =
    let taps = c.args.taps.now in
    let slot = slice_index_or c.sit.new.slots c.loop-position.position c.index-slots-position.result
    in
    let up = c.if-done-slot.true in
    let sat = c.sit.ensures c.loop-position.position c.index-slots-position.result
    c.loop-position-test.true c.if-slot.true in
    let p = err_from_is_err_and c.from_residual-in_err-write_slot.result
    c.from_residual-in_err-write_slot.ensures.1 in
    rw p.1 (started_next (between slot.begin slot.end taps) (drop slot.end taps)
    (sym (split_between taps slot.begin slot.end sat.0))
    (explains_between taps c.loop-position.done slot.begin (omega (arith, up))
    c.loop-position.invariant.explained c.in_ok-write_taps.ensures.explained)
    c.in_err-write_slot.ensures.started)

pub loop-position-preserved : goal.loop-position-preserved
loop-position-preserved g c =
    let taps = c.args.taps.now in
    let slot = slice_index_or c.sit.new.slots c.loop-position.position c.index-slots-position.result
    in elim c.if-slot.branch [
      | then-slot+then-done-slot+in_ok-write_taps+in_ok-write_slot w ↦
          let up = w.if-done-slot.true in
          let sat = c.sit.ensures c.loop-position.position c.index-slots-position.result
          c.loop-position-test.true w.if-slot.true in
          rw (w.text-is, w.explainer-is, w.out-is, w.done-is) (record {
            inside = sat.1;
            explained = explains_between taps slot.begin slot.end sat.0
                (explains_between taps c.loop-position.done slot.begin (omega (arith, up))
                c.loop-position.invariant.explained w.in_ok-write_taps.ensures.explained)
                w.in_ok-write_slot.ensures.explained;
          })
      | else-slot w ↦
          rw (w.text-is, w.explainer-is, w.out-is, w.done-is) c.loop-position.invariant
    ]

-- ---- what is after all slots' taps
pub write_taps-requires-2-clause-may : goal.write_taps-requires-2-clause-may
write_taps-requires-2-clause-may g c =
    let taps = c.args.taps.now in
    let done = c.loop-position.done in
    may_next (between done (length taps) taps) (drop (length taps) taps)
    (sym (split_between taps done (length taps) c.loop-position.invariant.inside))
    c.loop-position.invariant.explained c.requires.may

pub returns-in_err-write_taps-2-clause-started : goal.returns-in_err-write_taps-2-clause-started
returns-in_err-write_taps-2-clause-started g c =
    let taps = c.args.taps.now in
    let done = c.loop-position.done in
    let p = err_from_is_err_and c.from_residual-in_err-write_taps-2.result
    c.from_residual-in_err-write_taps-2.ensures.1 in
    rw p.1 (started_next (between done (length taps) taps) (drop (length taps) taps)
    (sym (split_between taps done (length taps) c.loop-position.invariant.inside))
    c.loop-position.invariant.explained c.in_err-write_taps-2.ensures.started)

pub returns-clause-explained : goal.returns-clause-explained
returns-clause-explained g c =
    let taps = c.args.taps.now in
    subst (λ (ts : List TapFields). Explains c.args.table.now c.args.explainer.now ts
    c.write_taps-2.new.explainer (GoesOut (g.W.Write.contents c.args.out.now)
    (string_bytes c.args.text.now) (g.W.Write.contents c.write_taps-2.new.out)
    (string_bytes c.write_taps-2.new.text))) (take_all (length taps) taps (omega arith))
    (explains_between taps c.loop-position.done (length taps) c.loop-position.invariant.inside
    c.loop-position.invariant.explained c.in_ok-write_taps-2.ensures.explained)
