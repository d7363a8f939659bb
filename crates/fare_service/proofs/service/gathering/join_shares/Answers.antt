use Rattle.std.proofs.Common.{◌+◌, ◌<◌, ◌∷◌, [], ◌++◌, length, sym, ◌∙◌, ap, subst, arith}
use Rattle.std.proofs.Common.{append_assoc, length-append}
use Rattle.std.specs.Vec.Iter.{into_iter_items}
use Rattle.histories.specs.Sums.{sums_of}
use Rattle.fare_service.specs.ShareView.{ShareView}
use Rattle.fare_service.specs.inside.Joining.{Belongs, IsJoinedOf}
use Rattle.world.specs.Run.{with_all}
use Rattle.fare_service.proofs.JoinLemmas.{joined_first, joined_more, runs_more}
use Rattle.fare_service.proofs.ShareLemmas.{holding}
use Rattle.fare_service.proofs.service.gathering.join_shares.Goals as goal

pub loop-share-init : goal.loop-share-init
loop-share-init c =
    let gives = c.into_iter-share-iterator.ensures.into_iter_gives in
    let inside = holding c.first.inside.drawer c.first.inside.posting.passes.items
    (sums_of c.first.inside.posting.totals) c.first.inside.done.items c.first.inside.calls.run in
    let P : ShareView → Type 0 =
    λ h. IsJoinedOf c.args.draw.now c.args.books.now (length c.args.others.items + 1) (h ∷ [])
    inside.drawer inside.passes in
    let B : ShareView → Type 0 = Belongs c.args.draw.now c.args.books.now in
    record {
      may = tt;
      ends = tt;
      left = gives.0;
      left_len = gives.1 ∙ (c.args.others.ok.0 ∙ ap length (sym gives.0));
      joined = subst P c.first.view_is
          (joined_first c.args.draw.now c.args.books.now (length c.args.others.items + 1) inside
          (omega arith) (subst B (sym c.first.view_is) c.requires.first));
      calls = ap (λ calls. calls.run) c.join.ensures
          ∙ ap (λ (h : ShareView). with_all c.args.calls.now.run h.run) c.first.view_is;
    }

pub loop-share-preserved : goal.loop-share-preserved
loop-share-preserved c =
    let steps = c.in-Some.ensures.steps in
    let inside = holding c.share.inside.drawer c.share.inside.posting.passes.items
    (sums_of c.share.inside.posting.totals) c.share.inside.done.items c.share.inside.calls.run in
    let P : ShareView → Type 0 =
    λ h. IsJoinedOf c.args.draw.now c.args.books.now (length c.args.others.items + 1)
    (c.args.first ∷ (c.loop-share.yielded ++ h ∷ [])) c.join-in-loop-share.new.drawer
    c.join_passes.new.into.items in
    let below : length (c.args.first ∷ c.loop-share.yielded) < length c.args.others.items + 1 =
    omega (
      arith,
      ap length c.loop-share.invariant.left,
      length-append c.loop-share.yielded (into_iter_items c.loop-share.share-iterator),
      ap length steps.0,
    ) in
    record {
      may = tt;
      ends = tt;
      left = append_assoc c.loop-share.yielded (c.in-Some.share ∷ [])
          (into_iter_items c.next.new.self) ∙ ap (λ ss. c.loop-share.yielded ++ ss) (sym steps.0)
          ∙ c.loop-share.invariant.left;
      left_len = omega (arith, steps.1, c.loop-share.invariant.left_len, ap length steps.0);
      joined = subst P c.share.view_is
          (joined_more c.args.draw.now c.args.books.now (length c.args.others.items + 1)
          (c.args.first ∷ c.loop-share.yielded) inside c.loop-share.drawer
          c.join-in-loop-share.new.drawer
          c.loop-share.passes.items c.join_passes.new.into.items below c.loop-share.invariant.joined
          c.join-in-loop-share.ensures.met c.join_passes.ensures.books c.join_passes.ensures.joined
          c.join_passes.ensures.claims);
      calls = ap (λ calls. calls.run) c.join-in-loop-share-2.ensures
          ∙ (ap (λ (h : ShareView). with_all c.loop-share.calls.run h.run) c.share.view_is
          ∙ (ap (λ r. with_all r c.in-Some.share.run) c.loop-share.invariant.calls
          ∙ sym (runs_more c.args.calls.now.run (c.args.first ∷ c.loop-share.yielded)
          c.in-Some.share)));
    }
