use Rattle.std.proofs.Common.{◌++◌, ◌∷◌, [], ap, sym, ◌∙◌, subst, append_assoc, take, get_or}
use Rattle.sorted_taps.specs.inside.Waiting.{HasPut}
use Rattle.std.proofs.lemmas.{List.take_more, Result.err_from_is_err_and}
use Rattle.sorted_taps.proofs.writer.put_all.Goals as goal

pub returns-in_err-put-clause-started : goal.returns-in_err-put-clause-started
returns-in_err-put-clause-started g c =
    let p = err_from_is_err_and c.from_residual.result c.from_residual.ensures.1 in
    rw (p.1, p.2) (λ is begin earlier put. c.in_err-put.ensures.started is begin
    (earlier ++ take c.loop-tap.tap-index c.args.taps.now)
    (c.loop-tap.invariant.put begin earlier put))

pub loop-tap-preserved : goal.loop-tap-preserved
loop-tap-preserved g c =
    let taps = c.args.taps.now in
    let i = c.loop-tap.tap-index in
    let new = g.W.Write.contents c.put.new.out in
    record {
      may_wait = c.in_ok-put.ensures.waiting;
      put = λ begin earlier put.
          subst (λ l. HasPut begin new l c.put.new.waiting.items)
          (append_assoc earlier (take i taps) (get_or taps i _ ∷ [])
          ∙ ap (λ l. earlier ++ l) (sym (take_more taps i _ c.loop-tap-test.true)))
          (c.in_ok-put.ensures.put begin (earlier ++ take i taps)
          (c.loop-tap.invariant.put begin earlier put));
    }
