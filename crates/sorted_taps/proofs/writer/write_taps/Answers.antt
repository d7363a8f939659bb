use Rattle.std.proofs.Common.{◌≡◌, ◌+◌, ◌++◌, [], ap, sym, ◌∙◌, subst, take, flat_map}
use Rattle.std.proofs.lemmas.Result.{err_from_is_err_and}
use Rattle.sorted_taps.specs.inside.Waiting.{HasPut}
use Rattle.sorted_taps.proofs.Putting.{list_more, may_wait_none, put_none}
use Rattle.sorted_taps.proofs.writer.write_taps.Goals as goal

pub loop-list-init : goal.loop-list-init
loop-list-init g c =
    let old = g.W.Write.contents c.args.out.now in
    let waiting = c.new-waiting.result.items in
    let none : waiting ≡ [] = c.new-waiting.ensures.items in
    record {
      may_wait = may_wait_none waiting none;
      put = subst (λ l. HasPut old old [] l) (sym none) (put_none old);
    }

pub returns-in_err-put_all-clause-started : goal.returns-in_err-put_all-clause-started
returns-in_err-put_all-clause-started g c =
    let old = g.W.Write.contents c.args.out.now in
    let p = err_from_is_err_and c.from_residual.result c.from_residual.ensures.1 in
    rw (p.1, p.2) (λ is. c.in_err-put_all.ensures.started is old _ c.loop-list.invariant.put)

pub loop-list-preserved : goal.loop-list-preserved
loop-list-preserved g c =
    let lists = c.args.lists.now in
    let i = c.loop-list.list-index in
    let old = g.W.Write.contents c.args.out.now in
    let new = g.W.Write.contents c.put_all.new.out in
    let item = c.list-item.result in
    let all : flat_map (λ list. list.items) (take i lists) ++ c.deref.result.now
    ≡ flat_map (λ list. list.items) (take (i + 1) lists) =
    ap (λ l. flat_map (λ list. list.items) (take i lists) ++ l)
    (c.deref.ensures.value ∙ ap (λ list. list.items) c.list-item.is)
    ∙ list_more (λ list. list.items) lists i item c.loop-list-test.true in
    record {
      may_wait = c.in_ok-put_all.ensures.waiting;
      put = subst (λ l. HasPut old new l c.put_all.new.waiting.items) all
          (c.in_ok-put_all.ensures.put old _ c.loop-list.invariant.put);
    }
