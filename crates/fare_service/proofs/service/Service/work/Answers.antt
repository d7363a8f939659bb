use Rattle.std.proofs.Common.{◌≡◌, [], length, inr, refl, sym, ◌∙◌, ap, subst, arith}
use Rattle.std.proofs.Common.{List, false, Ok, Err}
use Rattle.fare_service.proofs.ShareLemmas.{holding, share_more, worked_none}
use Rattle.fare_service.proofs.StoppingLemmas.{Going, going_start, going_more, step, stopped_cut}
use Rattle.fare_service.proofs.StoppingLemmas.{stopped_none, stopped_went_on}
use Rattle.fare_service.specs.{Lending.origin_at, ShareView.ShareView}
use Rattle.fare_service.specs.Shares.{IsShareOf, WentOn}
use Rattle.histories.specs.Sums.{sums_of}
use Rattle.shared_books.specs.Drawing.{DrawerView}
use Rattle.std.specs.{Prelude.OnOk, Prelude.Result, Result.is_err}
use Rattle.world.specs.Origins.{Origin, IsFrom, IsProvided}
use Rattle.fare_service.proofs.service.Service.work.Goals as goal

ok_holds : {T E P : Type 0} (r : Result T E) → is_err r ≡ false → OnOk r P → P
ok_holds (Ok x) valid holds = holds
ok_holds (Err e) valid holds = absurd (cc)

pub returns-in_default-clause-went_on : goal.returns-in_default-clause-went_on
returns-in_default-clause-went_on g c =
    ([], worked_none c.args.self.now c.args.share c.args.share refl refl refl refl refl refl)

pub returns-then-is_err-clause-went_on : goal.returns-then-is_err-clause-went_on
returns-then-is_err-clause-went_on g c =
    let start = ap
    (λ done. holding c.share.inside.drawer c.share.inside.posting.passes.items
    (sums_of c.share.inside.posting.totals) done c.share.inside.calls.run)
    c.reserve.ensures.items ∙ c.share.view_is in
    let W : ShareView → Type 0 = WentOn c.args.self.now c.args.share in
    subst W (sym start)
    ([], worked_none c.args.self.now c.args.share c.args.share refl refl refl refl refl refl)

-- room for the results of all uploads was taken
pub loop-init : goal.loop-init
loop-init g c =
    let service = c.args.self.now in
    let start = ap
    (λ done. holding c.share.inside.drawer c.share.inside.posting.passes.items
    (sums_of c.share.inside.posting.totals) done c.share.inside.calls.run)
    c.reserve.ensures.items ∙ c.share.view_is in
    let S : ShareView → Type 0 = IsShareOf service in
    let G : ShareView → Type 0 = Going service c.args.share in
    let room = ok_holds c.reserve.result (sym c.if-is_err.ensures.value) c.reserve.ensures.ok in
    record {
      share = subst S (sym start) c.requires;
      going = subst G (sym start) (going_start service c.args.share);
      clock = c.in-Ok.ensures.clock;
      runs = c.in-Ok.ensures.runs;
      room = omega (arith, room, c.len.ensures, ap (λ h. length h.uploads) c.self.view_is);
    }

pub loop-preserved : goal.loop-preserved
loop-preserved g c =
    let service = c.args.self.now in
    let next = c.post_drawn-goes_on.result.0 in
    let e = c.in-Some-next_number.ensures.drawn in
    let done = c.post_drawn-goes_on.ensures in
    let a = holding c.loop.drawer c.loop.posting.passes.items (sums_of c.loop.posting.totals)
    c.loop.done.items c.loop.calls.run in
    let b = holding c.next_number.new.drawer c.post_drawn-goes_on.new.posting.passes.items
    (sums_of c.post_drawn-goes_on.new.posting.totals) c.push_reserved.new.self.items
    c.provide.new.calls.run in
    let L : List Origin → Type 0 = λ us. IsProvided (origin_at us c.in-Some-next_number.upload)
    c.loop.calls.run c.provide.new.calls.run c.in-Some-provide.file.now in
    let one = step service a b next c.in-Some-next_number.upload c.in-Some-provide.file.now
    done.upload e.2 c.push_reserved.ensures.items done.worked
    (subst L (ap (λ h. h.uploads) c.self.view_is) c.in-Some-provide.ensures.provided).loads in
    record {
      share = share_more service a b _ c.loop.invariant.share one (ap (λ d. d.drawn_from) e.2)
          (omega (arith, done.few));
      going = going_more service c.args.share a b _ c.loop.invariant.going one done.full
          (done.goes_on c.if-not-goes_on.false);
      clock = done.clock ∙ c.loop.invariant.clock;
      runs = done.runs ∙ c.loop.invariant.runs;
      room = omega (
        arith,
        c.push_reserved.ensures.len,
        c.push_reserved.ensures.capacity,
        c.loop.invariant.room,
        e.0,
        e.1,
        ap (λ d. d.seen) e.2,
      );
    }

-- no upload was left
pub returns-in_default-next_number-clause-stopped :
    goal.returns-in_default-next_number-clause-stopped
returns-in_default-next_number-clause-stopped g c =
    let service = c.args.self.now in
    let none = c.in_default-next_number.ensures.none in
    let share_of : DrawerView → ShareView = λ drawer. holding drawer c.loop.posting.passes.items
    (sums_of c.loop.posting.totals) c.loop.done.items c.loop.calls.run in
    inr (stopped_none service c.args.share (share_of c.loop.drawer) (share_of c.next_number.new.drawer)
    c.loop.invariant.going
    (worked_none service (share_of c.loop.drawer) (share_of c.next_number.new.drawer)
    (ap (λ d. d.claims) none) (ap (λ d. d.drawn) none) refl refl refl refl) (λ h. h)
    (ap (λ d. d.seen) none))

-- the last upload was cut
pub returns-then-not-goes_on : goal.returns-then-not-goes_on
returns-then-not-goes_on g c =
    let service = c.args.self.now in
    let next = c.post_drawn-goes_on.result.0 in
    let e = c.in-Some-next_number.ensures.drawn in
    let done = c.post_drawn-goes_on.ensures in
    let a = holding c.loop.drawer c.loop.posting.passes.items (sums_of c.loop.posting.totals)
    c.loop.done.items c.loop.calls.run in
    let b = holding c.next_number.new.drawer c.post_drawn-goes_on.new.posting.passes.items
    (sums_of c.post_drawn-goes_on.new.posting.totals) c.push_reserved.new.self.items
    c.provide.new.calls.run in
    let L : List Origin → Type 0 = λ us. IsProvided (origin_at us c.in-Some-next_number.upload)
    c.loop.calls.run c.provide.new.calls.run c.in-Some-provide.file.now in
    let one = step service a b next c.in-Some-next_number.upload c.in-Some-provide.file.now
    done.upload e.2 c.push_reserved.ensures.items done.worked
    (subst L (ap (λ h. h.uploads) c.self.view_is) c.in-Some-provide.ensures.provided).loads in
    let stopped = stopped_cut service c.args.share a b _ c.loop.invariant.going one done.full
    (done.stops c.if-not-goes_on.true) in
    record {
      share = share_more service a b _ c.loop.invariant.share one (ap (λ d. d.drawn_from) e.2)
          (omega (arith, done.few));
      went_on = stopped_went_on service c.args.share _ stopped;
      stopped = inr stopped;
      unavailable = tt;
    }

pub post_drawn-goes_on-requires-clause-provided : goal.post_drawn-goes_on-requires-clause-provided
post_drawn-goes_on-requires-clause-provided g c =
    let F : List Origin → Type 0 =
    λ us. IsFrom (origin_at us c.in-Some-next_number.upload) c.in-Some-provide.file.now in
    subst F (ap (λ h. h.uploads) c.self.view_is) c.in-Some-provide.ensures.provided.from
