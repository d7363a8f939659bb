-- Each turn explains the taps that were taken last.
use Rattle.std.proofs.Common.{ℕ, List, [], ◌++◌, All, length, map, string_bytes, sym, ap, subst}
use Rattle.std.proofs.Common.{◌∙◌, arith, refl}
use Rattle.fare_texts.proofs.Beginnings.{goes_begins, goes_last, goes_nothing, goes_on, goes_then}
use Rattle.fare_texts.proofs.PieceWriting.{consumed_first}
use Rattle.fare_texts.specs.{LedgerLines.head_text, WrittenOut.Begins, WrittenOut.GoesOut}
use Rattle.settled_bills.proofs.TapsExplained.{none_reported, reported_append}
use Rattle.settled_bills.specs.inside.ExplainedTaps.{Explains, HaveLines}
use Rattle.settlement.proofs.Nondecreasing.{last_append}
use Rattle.settlement.specs.Nondecreasing.{TapsNondecreasingFrom, last_token}
use Rattle.settlement.specs.Posted.{posted}
use Rattle.settled_bills.proofs.{Takings.Early, Takings.both_taken, TapsExplained.lines_both}
use Rattle.settled_bills.proofs.Takings.{last_taken, none_taken, none_there, nondecreasing_both}
use Rattle.tap_views.specs.declared.{encoder.TapFields.TapFields, token.Token.Token}
use Rattle.settled_bills.proofs.lines_below.write_lines.Goals as goal

pub loop-init : goal.loop-init
loop-init g c =
    let fares = c.args.table.now in
    let out = g.W.Write.contents c.args.out.now in
    let none = c.of-explainer.ensures.none in
    let few = c.requires.few in
    record {
      ready = c.requires.ready;
      room = omega (arith, none, few);
      done = [];
      taken = none_taken (map g.F.Placed.bytes c.args.files.now)
          c.args.taker.now.merge.readers.items;
      nondecreasing = tt;
      token = c.of-explainer.ensures.token;
      lines = [];
      explained = none_reported fares [] c.of-explainer.result
          (consumed_first fares c.of-explainer.result (c.of-explainer.ensures.explained fares));
      gone = subst (λ (waits : List ℕ). GoesOut out head_text out waits [])
          (sym c.in_ok-text.ensures) (goes_nothing out head_text);
    }

pub take-requires-clause-ready : goal.take-requires-clause-ready
take-requires-clause-ready g c = c.loop.invariant.ready

pub write_by_workers-requires-clause-may : goal.write_by_workers-requires-clause-may
write_by_workers-requires-clause-may g c κs within =
    let inv = c.loop.invariant in
    let room = inv.room in
    let less = c.if-number-left.false in
    let long = c.deref.ensures.len in
    record {
      early = subst (λ (taps : List TapFields). All Early taps) (sym c.deref.ensures.value)
          c.in_ok-take.ensures.taken.early;
      nondecreasing = subst (TapsNondecreasingFrom c.loop.explainer.token)
          (sym c.deref.ensures.value) c.in_ok-take.ensures.nondecreasing;
      earlier = posted c.args.table.now inv.done;
      consumed = inv.explained.consumed;
      room = omega (arith, room, less, long);
    }

pub loop-preserved : goal.loop-preserved
loop-preserved g c =
    let inv = c.loop.invariant in
    let fares = c.args.table.now in
    let taps = c.take.new.self.taps.items in
    let begin = g.W.Write.contents c.args.out.now in
    let out = g.W.Write.contents c.loop.out in
    let after = g.W.Write.contents c.write_by_workers.new.out in
    let waits = string_bytes c.loop.text in
    let next = string_bytes c.write_by_workers.new.text in
    let less = c.if-number-left.false in
    let long = c.deref.ensures.len in
    let here = ap length c.deref.ensures.value in
    let few = c.in_default-write_by_workers.ensures.explained.few in
    let room = inv.room in
    let is = subst (λ (ts : List TapFields). Explains fares c.loop.explainer ts
    c.write_by_workers.new.explainer (GoesOut out waits after next)) c.deref.ensures.value
    c.in_default-write_by_workers.ensures.explained in
    let (more, are, gone) = is.lines (posted fares inv.done) inv.explained.consumed in
    record {
      ready = c.in_ok-take.ensures.ready;
      room = omega (arith, less, long, here, few, room);
      done = inv.done ++ taps;
      taken = both_taken (map g.F.Placed.bytes c.args.files.now)
          c.args.taker.now.merge.readers.items c.loop.taker.merge.readers.items
          c.take.new.self.merge.readers.items inv.done taps inv.taken c.in_ok-take.ensures.taken;
      nondecreasing = nondecreasing_both c.args.from inv.done taps inv.nondecreasing
          (subst (λ (t : Token). TapsNondecreasingFrom t taps) inv.token
          c.in_ok-take.ensures.nondecreasing);
      token = is.token ∙ ap (λ (t : Token). last_token t taps) inv.token
          ∙ sym (last_append c.args.from inv.done taps);
      lines = inv.lines ++ more;
      explained = reported_append fares [] inv.done taps c.loop.explainer
          c.write_by_workers.new.explainer inv.lines more inv.explained are;
      gone = goes_on begin out after head_text waits next inv.lines more inv.gone gone;
    }

pub returns-then-is_empty-clause-whole : goal.returns-then-is_empty-clause-whole
returns-then-is_empty-clause-whole g c =
    let inv = c.loop.invariant in
    record {
      taps = inv.done;
      taken = last_taken (map g.F.Placed.bytes c.args.files.now)
          c.args.taker.now.merge.readers.items c.loop.taker.merge.readers.items
          c.take.new.self.merge.readers.items inv.done c.take.new.self.taps.items
          (none_there c.take.new.self.taps _ c.is_empty.ensures c.if-is_empty.true) inv.taken
          c.in_ok-take.ensures.taken;
      nondecreasing = inv.nondecreasing;
      lines = inv.lines;
      are = inv.explained.are;
      holds = goes_last (g.W.Write.contents c.args.out.now) (g.W.Write.contents c.loop.out)
          (g.W.Write.contents c.pass_on.new.out) head_text (string_bytes c.loop.text) inv.lines
          inv.gone c.in_default.ensures.whole;
    }

-- ---- a beginning was written
pub returns-in-Err-clause-started : goal.returns-in-Err-clause-started
returns-in-Err-clause-started g c = λ is_write.
    let inv = c.loop.invariant in (
      c.loop.taker.merge.readers.items,
      record {
        taps = inv.done;
        taken = inv.taken;
        nondecreasing = inv.nondecreasing;
        lines = inv.lines;
        are = inv.explained.are;
        holds = goes_then (g.W.Write.contents c.args.out.now) (g.W.Write.contents c.loop.out)
            (g.W.Write.contents c.pass_on.new.out) head_text (string_bytes c.loop.text) inv.lines
            inv.gone c.in-Err.ensures.started;
      },
    )

pub returns-in-Err-write_by_workers-clause-started : goal.returns-in-Err-write_by_workers-clause-started
returns-in-Err-write_by_workers-clause-started g c = λ is_write.
    let inv = c.loop.invariant in
    let fares = c.args.table.now in
    let taps = c.take.new.self.taps.items in
    let out = g.W.Write.contents c.loop.out in
    let after = g.W.Write.contents c.write_by_workers.new.out in
    let waits = string_bytes c.loop.text in
    let started = subst (λ (ts : List TapFields). HaveLines fares c.loop.explainer ts
    (λ lines. Begins out after (waits ++ lines))) c.deref.ensures.value
    c.in-Err-write_by_workers.ensures.started in
    let (more, along, begins) = started (posted fares inv.done) inv.explained.consumed in (
      c.take.new.self.merge.readers.items,
      record {
        taps = inv.done ++ taps;
        taken = both_taken (map g.F.Placed.bytes c.args.files.now)
            c.args.taker.now.merge.readers.items c.loop.taker.merge.readers.items
            c.take.new.self.merge.readers.items inv.done taps inv.taken c.in_ok-take.ensures.taken;
        nondecreasing = nondecreasing_both c.args.from inv.done taps inv.nondecreasing
            (subst (λ (t : Token). TapsNondecreasingFrom t taps) inv.token
            c.in_ok-take.ensures.nondecreasing);
        lines = inv.lines ++ more;
        are = lines_both fares [] inv.done taps (inv.done ++ taps) inv.lines more refl
            inv.explained.are along;
        holds = goes_begins (g.W.Write.contents c.args.out.now) out after head_text waits inv.lines
            more inv.gone begins;
      },
    )
