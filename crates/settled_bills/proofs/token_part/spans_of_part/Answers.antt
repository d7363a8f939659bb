use Rattle.std.proofs.Common.{[], ◌++◌, map}
use Rattle.std.proofs.lemmas.Result.{IfOk-weaker}
use Rattle.settled_bills.proofs.Takings.{both_taken, none_taken}
use Rattle.settled_bills.proofs.token_part.spans_of_part.Goals as goal

pub loop-init : goal.loop-init
loop-init g c =
    let readers = c.in_ok-started.started.taker.merge.readers.items in
    record {
      ready = c.in_ok-started.ensures.ready;
      positions = c.in_ok-started.ensures.positions;
      begin = readers;
      placed = c.in_ok-started.ensures.placed;
      done = [];
      taken = none_taken (map g.F.Placed.bytes c.args.files.now) readers;
    }

pub loop-preserved : goal.loop-preserved
loop-preserved g c =
    let inv = c.loop.invariant in
    record {
      ready = c.in_ok-take.ensures.ready;
      positions = inv.positions;
      begin = inv.begin;
      placed = inv.placed;
      done = inv.done ++ c.take.new.self.taps.items;
      taken = both_taken (map g.F.Placed.bytes c.args.files.now) inv.begin
          c.loop.started.taker.merge.readers.items c.take.new.self.merge.readers.items inv.done
          c.take.new.self.taps.items inv.taken c.in_ok-take.ensures.taken;
    }

pub returns-then-is_empty : goal.returns-then-is_empty
returns-then-is_empty g c =
    let inv = c.loop.invariant in
    let done = inv.done ++ c.take.new.self.taps.items in
    IfOk-weaker c.end.result _ _ (λ spans have all are.
    let taken = both_taken (map g.F.Placed.bytes c.args.files.now) inv.begin
    c.loop.started.taker.merge.readers.items c.take.new.self.merge.readers.items inv.done
    c.take.new.self.taps.items inv.taken c.in_ok-take.ensures.taken in
    let all_have = have all inv.begin done are (inv.placed all are) (taken.taken all are) in
    (all_have.lists, all_have.spanned)) c.end.ensures
