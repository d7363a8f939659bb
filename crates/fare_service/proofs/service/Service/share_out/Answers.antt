use Rattle.std.proofs.Common.{◌<◌, List, [], ◌∷◌, All, length, length-append, sym, ap, subst, arith}
use Rattle.fare_service.proofs.ClaimLemmas.{AreSharesSplit, split_none, split_more, split_all}
use Rattle.fare_service.proofs.EndingLemmas.{fresh_left}
use Rattle.fare_service.specs.{Claims.HaveAllClaims, ServiceView.shards_of, ShareView.ShareView}
use Rattle.fare_service.specs.Shares.{IsFresh, IsShareOf}
use Rattle.std.proofs.lemmas.List.Elements.{All-nil, All-cons, All-append}
use Rattle.fare_service.proofs.service.Service.share_out.Goals as goal

pub loop-init : goal.loop-init
loop-init g c =
    let S : ShareView → Type 0 = IsShareOf c.args.self.now in
    let P : List ShareView → Type 0 = All S in
    let nothing = c.new-shares.ensures.items in
    record {
      first = c.requires.first;
      each = subst P (sym nothing) (All-nil S);
      number = omega (arith, ap length nothing);
      fresh = λ f.
          (f, subst (λ (ss : List ShareView). All IsFresh ss) (sym nothing) (All-nil IsFresh));
      claims = λ whole. subst (λ ss. AreSharesSplit (shards_of c.args.self.now) c.args.first ss)
          (sym nothing) (split_none (shards_of c.args.self.now) c.args.first whole);
    }

pub loop-preserved : goal.loop-preserved
loop-preserved g c =
    let S : ShareView → Type 0 = IsShareOf c.args.self.now in
    let P : List ShareView → Type 0 = All S in
    let share = c.in_ok-share.share in
    record {
      first = c.share.ensures.kept;
      each = subst P (sym c.in_ok-push.ensures.items)
          (All-append S c.loop.shares.items (share ∷ []) c.loop.invariant.each
          (All-cons S share [] c.in_ok-share.ensures.new (All-nil S)));
      number = omega (
        arith,
        c.loop.invariant.number,
        ap length c.in_ok-push.ensures.items,
        length-append c.loop.shares.items (share ∷ []),
      );
      fresh = λ f. (
          let before = c.loop.invariant.fresh f in (
            subst IsFresh (sym c.in_ok-share.ensures.old) (fresh_left c.loop.first before.0),
            subst (λ (ss : List ShareView). All IsFresh ss) (sym c.in_ok-push.ensures.items)
                (All-append IsFresh c.loop.shares.items (share ∷ []) before.1
                (All-cons IsFresh share [] c.in_ok-share.ensures.fresh (All-nil IsFresh))),
          ));
      claims = λ whole. (
          let few : length c.loop.shares.items < 15 =
          omega (arith, c.loop.invariant.number, c.requires.few) in
          subst (λ ss. AreSharesSplit (shards_of c.args.self.now) c.share.new.old ss)
          (sym c.in_ok-push.ensures.items)
          (split_more (shards_of c.args.self.now) c.loop.first c.share.new.old share
          c.loop.shares.items few c.in_ok-share.ensures.old c.in_ok-share.ensures.half
          (c.loop.invariant.claims whole)));
    }

pub returns-clause-shares : goal.returns-clause-shares
returns-clause-shares g c =
    let S : ShareView → Type 0 = IsShareOf c.args.self.now in
    let P : List ShareView → Type 0 = All S in
    subst P (sym {A = List ShareView} c.in_ok-insert.ensures.items)
    (All-cons S c.loop.first c.loop.shares.items c.loop.invariant.first c.loop.invariant.each)

pub returns-clause-number : goal.returns-clause-number
returns-clause-number g c =
    omega (arith, ap length c.in_ok-insert.ensures.items, c.loop.invariant.number)

pub returns-clause-fresh : goal.returns-clause-fresh
returns-clause-fresh g c f =
    let both = c.loop.invariant.fresh f in
    subst (λ (ss : List ShareView). All IsFresh ss)
    (sym {A = List ShareView} c.in_ok-insert.ensures.items)
    (All-cons IsFresh c.loop.first c.loop.shares.items both.0 both.1)

pub returns-clause-claims : goal.returns-clause-claims
returns-clause-claims g c whole =
    subst (λ (ss : List ShareView). HaveAllClaims (shards_of c.args.self.now) ss)
    (sym {A = List ShareView} c.in_ok-insert.ensures.items)
    (split_all (shards_of c.args.self.now) c.loop.first c.loop.shares.items
    (c.loop.invariant.claims whole))
