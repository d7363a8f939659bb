use Rattle.std.proofs.Common.{◌≡◌, ◌≢◌, [], ◌++◌, ap, append-nil, sym, ◌∙◌, subst, arith, vec_len}
use Rattle.sorted_taps.proofs.Putting.{if_any, may_wait_none, put_none}
use Rattle.sorted_taps.proofs.Taking.{taken_append, taken_merged, taken_none}
use Rattle.sorted_taps.specs.{Merges.AreAtEnd, Merges.AreTaken, Written.IsPartlyWritten}
use Rattle.sorted_taps.specs.declared.merged_file.MergeStop.TheVariants.{Write}
use Rattle.sorted_taps.specs.inside.Waiting.{HasPut}
use Rattle.std.proofs.lemmas.{Bool.eqb-true, List.nil_from_length, Result.err_from_is_err_and}
use Rattle.std.specs.Prelude.{IfErr}
use Rattle.sorted_taps.proofs.merged_file.write_merged.Goals as goal

pub returns-in_err-stamps-clause-started : goal.returns-in_err-stamps-clause-started
returns-in_err-stamps-clause-started g c =
    if_any _ c.from_residual.result
    (λ stop is. (put_none (g.W.Write.contents c.args.out.now)).part)

pub returns-in_err-merge-clause-started : goal.returns-in_err-merge-clause-started
returns-in_err-merge-clause-started g c =
    if_any _ c.from_residual-in_err-merge.result
    (λ stop is. (put_none (g.W.Write.contents c.args.out.now)).part)

pub loop-init : goal.loop-init
loop-init g c =
    let old = g.W.Write.contents c.args.out.now in
    let waiting = c.new-waiting.result.items in
    let none : waiting ≡ [] = c.new-waiting.ensures.items in
    let long = c.begin.auto.window in
    let room = c.requires in
    record {
      room = omega (arith, long, room);
      readers = c.in_ok-merge.ensures.number;
      may_wait = may_wait_none waiting none;
      taps = [];
      put = subst (λ l. HasPut old old [] l) (sym none) (put_none old);
      taken = λ all are. (
        c.in_ok-merge.merge.readers.items,
        c.in_ok-merge.ensures.started all are,
        taken_none all c.in_ok-merge.merge.readers.items,
      );
    }

pub returns-in_err-take-clause-started : goal.returns-in_err-take-clause-started
returns-in_err-take-clause-started g c =
    if_any _ c.from_residual-in_err-take.result (λ stop is. c.loop.invariant.put.part)

pub returns-in_err-numbers-clause-started : goal.returns-in_err-numbers-clause-started
returns-in_err-numbers-clause-started g c =
    if_any _ c.from_residual-in_err-numbers.result (λ stop is. c.loop.invariant.put.part)

pub returns-in_err-put_all-clause-started : goal.returns-in_err-put_all-clause-started
returns-in_err-put_all-clause-started g c =
    let old = g.W.Write.contents c.args.out.now in
    let new = g.W.Write.contents c.put_all.new.out in
    let p = err_from_is_err_and c.from_residual-in_err-put_all.result
    c.from_residual-in_err-put_all.ensures.1 in
    subst (λ r. IfErr r (λ stop. stop ≢ Write → IsPartlyWritten old new)) (sym p.1)
    (λ other. c.in_err-put_all.ensures.started (p.2 other) old c.loop.invariant.taps
    c.loop.invariant.put)

pub returns-in_err-put_rest-clause-started : goal.returns-in_err-put_rest-clause-started
returns-in_err-put_rest-clause-started g c =
    let old = g.W.Write.contents c.args.out.now in
    let here = g.W.Write.contents c.loop.out in
    let new = g.W.Write.contents c.put_rest.new.out in
    let p = err_from_is_err_and c.from_residual-in_err-put_rest.result
    c.from_residual-in_err-put_rest.ensures.1 in
    subst (λ r. IfErr r (λ stop. stop ≢ Write → IsPartlyWritten old new)) (sym p.1)
    (λ other. subst (λ o. IsPartlyWritten old o)
    (sym (ap g.W.Write.contents (c.in_err-put_rest.ensures.kept (p.2 other))))
    c.loop.invariant.put.part)

pub returns-then-is_empty-clause-merged : goal.returns-then-is_empty-clause-merged
returns-then-is_empty-clause-merged g c = λ all are.
    let old = g.W.Write.contents c.args.out.now in
    let here = g.W.Write.contents c.loop.out in
    let taps = c.loop.invariant.taps in
    let mid = c.loop.merge.readers.items in
    let new = c.take.new.self.readers.items in
    let run = c.take.new.taps in
    let zero : vec_len run ≡ 0 = eqb-true (vec_len run) 0 (sym c.is_empty.ensures ∙ c.if-is_empty.true) in
    let none : run.items ≡ [] = nil_from_length run.items (grind arith) in
    let (started, earlier, taken) = c.loop.invariant.taken all are in
    let both = taken_append all started mid new taps run.items taken
    (c.in_ok-take.ensures.taken all are) in
    let merged = taken_merged all started new taps earlier
    (subst (λ ts. AreTaken all started ts new) (ap (λ ts. taps ++ ts) none ∙ append-nil taps) both)
    (subst (λ rs. AreAtEnd rs) c.readers.ensures (c.are_at_end.ensures c.if-not-are_at_end.false)) in
    record {
      lists = merged.lists;
      sorted = merged.sorted;
      counted = c.in_ok-numbers.ensures ∙ merged.counted;
      merged = taps;
      canonical = merged.canonical;
      written = c.in_ok-put_rest.ensures.written old taps
          (subst (λ l. HasPut old here taps l) (sym c.deref-then-is_empty.ensures.value) c.loop.invariant.put);
    }

pub loop-preserved : goal.loop-preserved
loop-preserved g c =
    let old = g.W.Write.contents c.args.out.now in
    let taps = c.loop.invariant.taps in
    let mid = c.loop.merge.readers.items in
    let new = c.take.new.self.readers.items in
    let run = c.take.new.taps in
    let long = c.take.auto.window in
    let room = c.loop.invariant.room in
    record {
      room = omega (arith, long, room);
      readers = c.in_ok-take.ensures.number;
      may_wait = c.in_ok-put_all.ensures.waiting;
      taps = taps ++ run.items;
      put = rw c.deref-in-loop.ensures.value at
          (c.in_ok-put_all.ensures.put old taps c.loop.invariant.put);
      taken = λ all are.
          let (started, earlier, taken) = c.loop.invariant.taken all are in (
            started,
            earlier,
            taken_append all started mid new taps run.items taken
                (c.in_ok-take.ensures.taken all are),
          );
    }
