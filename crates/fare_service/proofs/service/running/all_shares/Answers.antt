use Rattle.std.proofs.Common.{◌≡◌, [], ◌∷◌, ◌++◌, length, map, append_assoc, append-nil, Ok, sym}
use Rattle.std.proofs.Common.{◌∙◌, ap, arith}
use Rattle.fare_service.specs.{ShareView.ShareView, declared.lending.Unavailable.Unavailable}
use Rattle.std.proofs.lemmas.List.{map-append, nil_from_length}
use Rattle.std.specs.{Prelude.Result, Vec.Iter.into_iter_items}
use Rattle.fare_service.proofs.service.running.all_shares.Goals as goal

abbrev given : ShareView → Result ShareView Unavailable
given share = Ok share

pub loop-answer-preserved : goal.loop-answer-preserved
loop-answer-preserved c =
    let steps = c.in-Some.ensures.steps in
    let inv = c.loop-answer.invariant in
    record {
      left = append_assoc c.loop-answer.yielded (c.in-Some.answer ∷ [])
          (into_iter_items c.next.new.self) ∙ ap (λ ss. c.loop-answer.yielded ++ ss) (sym steps.0)
          ∙ inv.left;
      left_len = omega (arith, steps.1, inv.left_len, ap length steps.0);
      shares = ap (λ rs. rs ++ c.in-Some.answer ∷ []) inv.shares
          ∙ (ap (λ r. map given c.loop-answer.shares.items ++ r ∷ []) c.in-Ok.is
          ∙ (sym (map-append given c.loop-answer.shares.items (c.in-Ok.share ∷ []))
          ∙ ap (map given) (sym c.in_ok-push-in-Ok.ensures)));
    }

pub returns-clause-shares : goal.returns-clause-shares
returns-clause-shares c =
    let inv = c.loop-answer.invariant in
    let left = into_iter_items c.loop-answer.answer-iterator in
    let none : left ≡ [] =
    nil_from_length left (omega (arith, c.in-None.ensures.steps.0, inv.left_len)) in
    sym inv.left ∙ (ap (λ ss. c.loop-answer.yielded ++ ss) none
    ∙ (append-nil c.loop-answer.yielded ∙ inv.shares))
