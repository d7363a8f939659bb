use Rattle.std.proofs.Common.{◌≡◌, List, [], ◌∷◌, ◌++◌, All, length, map, length-append}
use Rattle.std.proofs.Common.{append_assoc, append-nil, sym, ◌∙◌, ap, subst, arith}
use Rattle.fare_service.proofs.ThreadLemmas.{kept_zip}
use Rattle.fare_service.specs.{ShareView.ShareView, declared.lending.Unavailable.Unavailable}
use Rattle.fare_service.specs.{declared.service.running.OfShare.OfShare, inside.Lending.IsAnswer}
use Rattle.std.proofs.lemmas.List.{map-append, nil_from_length}
use Rattle.std.proofs.lemmas.List.Elements.{All-nil, All-cons, All-append}
use Rattle.std.specs.{List.AllZip, Prelude.Result, Vec.Iter.into_iter_items}
use Rattle.std.specs.declared.thread.PromisedHandle.{PromisedHandle}
use Rattle.fare_service.proofs.service.Service.work_in.Goals as goal

abbrev Answer : Type 0
Answer = Result ShareView Unavailable

abbrev began_with : {U : Type 0} → PromisedHandle Answer (OfShare U) → ShareView
began_with h = h.promise.began.value

pub loop-share-preserved : goal.loop-share-preserved
loop-share-preserved g c =
    let steps = c.in-Some.ensures.steps in
    let H : PromisedHandle Answer (OfShare _) → Type 0 =
    λ h. h.promise.service.now ≡ c.args.self.now in
    let P : List (PromisedHandle Answer (OfShare _)) → Type 0 = All H in
    let items = c.in_ok-push.ensures.items in
    let mine : H c.in-Ok.thread = ap (λ (p : OfShare _). p.service.now) c.in-Ok.ensures.ok in
    record {
      left = append_assoc c.loop-share.yielded (c.in-Some.share ∷ [])
          (into_iter_items c.next.new.self) ∙ ap (λ ss. c.loop-share.yielded ++ ss) (sym steps.0)
          ∙ c.loop-share.invariant.left;
      left_len = omega (arith, steps.1, c.loop-share.invariant.left_len, ap length steps.0);
      held = subst P (sym items)
          (All-append H c.loop-share.threads.items (c.in-Ok.thread ∷ []) c.loop-share.invariant.held
          (All-cons H c.in-Ok.thread [] mine (All-nil H)));
      began = ap (λ hs. map began_with hs) items
          ∙ (map-append began_with c.loop-share.threads.items (c.in-Ok.thread ∷ [])
          ∙ (ap (λ ss. ss ++ began_with c.in-Ok.thread ∷ []) c.loop-share.invariant.began
          ∙ ap (λ s. c.loop-share.yielded ++ s ∷ [])
          (ap (λ (p : OfShare _). p.began.value) c.in-Ok.ensures.ok ∙ c.of-began.ensures)));
      number = omega (
        arith,
        c.loop-share.invariant.number,
        ap length items,
        length-append c.loop-share.threads.items (c.in-Ok.thread ∷ []),
        length-append c.loop-share.yielded (c.in-Some.share ∷ []),
      );
    }

pub returns : goal.returns
returns g c =
    let inv = c.loop-share.invariant in
    let left = into_iter_items c.loop-share.share-iterator in
    let none : left ≡ [] =
    nil_from_length left (omega (arith, c.in-None.ensures.steps.0, inv.left_len)) in
    let all : c.loop-share.yielded ≡ c.args.shares.items =
    sym (append-nil c.loop-share.yielded)
    ∙ (ap (λ ss. c.loop-share.yielded ++ ss) (sym none) ∙ inv.left) in
    let rs = c.in-Ok-join_promised.worked.items in
    let P : List ShareView → Type 0 = λ ss. AllZip (IsAnswer c.args.self.now) ss rs in
    subst P (inv.began ∙ all)
    (kept_zip _ c.loop-share.threads.items rs _ (omega (arith, c.loop-share.threads.ok.0))
    (omega (
      arith,
      c.loop-share.threads.ok.0,
      c.in-Ok-join_promised.worked.ok.0,
      c.in-Ok-join_promised.ensures.len,
    )) c.in-Ok-join_promised.ensures.each
    (IsAnswer c.args.self.now) (λ (p : OfShare _). p.began.value)
    (λ (p : OfShare _). p.service.now ≡ c.args.self.now) inv.held
    (λ p r own kept. subst (λ s. IsAnswer s p.began.value r) own kept))
