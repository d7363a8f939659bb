-- Each round adds the taps that were taken last.
use Rattle.std.proofs.Common.{List, [], ◌++◌, All, map, length, refl, sym, ap, subst, ◌∙◌, arith}
use Rattle.std.proofs.Common.{drop, length-append, length-drop}
use Rattle.settlement.proofs.Nondecreasing.{last_append}
use Rattle.settlement.specs.Nondecreasing.{TapsNondecreasingFrom, last_token}
use Rattle.settlement.specs.{OpenBills.IsOpenBill, Posted.HasName}
use Rattle.settled_bills.proofs.Takings.{Early, both_taken, nondecreasing_both, last_taken}
use Rattle.settled_bills.proofs.Takings.{none_taken, none_there}
use Rattle.settled_bills.specs.inside.Taken.{AreFollowing}
use Rattle.std.proofs.lemmas.List.{length-take, Elements.All-nil}
use Rattle.tap_views.specs.declared.{encoder.TapFields.TapFields, token.Token.Token}
use Rattle.settled_bills.proofs.charges.charge.Goals as goal

pub loop-round-init : goal.loop-round-init
loop-round-init g c = record {
  ready = c.requires.ready;
  charged = record {
    taps = [];
    taken = none_taken (map g.F.Placed.bytes c.args.files.now)
        c.args.taker.now.merge.readers.items;
    bill_is = c.requires.none;
    nondecreasing = tt;
    last = refl;
    counted = refl;
    few = omega arith;
  };
}

pub add_following-requires-clause-bill : goal.add_following-requires-clause-bill
add_following-requires-clause-bill g c =
    let was = c.loop-round.invariant.charged in
    let counted = was.counted in
    let (fits, more) = c.in-Some.ensures in
    let taps = c.take.new.taps in
    let long = c.len.ensures in
    let ok = taps.ok.0 in
    let here = ap length c.deref.ensures.value in
    (was.taps, was.bill_is, omega (arith, counted, fits, more, long, ok, here))

pub loop-round-preserved : goal.loop-round-preserved
loop-round-preserved g c =
    let was = c.loop-round.invariant.charged in
    let known = map g.F.Placed.bytes c.args.files.now in
    let taps = c.take.new.taps.items in
    let next = c.in-Ok-add_following.ensures in
    let following = subst (λ (ts : List TapFields).
    AreFollowing c.loop-round.so_far.replay.token ts c.add_following.new.so_far.replay.token)
    c.deref.ensures.value (next.following c.if-not-is_following.false) in
    let from = c.args.so_far.now.replay.token in
    let counted = was.counted in
    let (fits, more) = c.in-Some.ensures in
    let size = c.len.ensures in
    let ok = c.take.new.taps.ok.0 in
    let long = length-append was.taps taps in
    let room = c.loop-round.taker.window in
    let left = drop (length c.take.new.window) room.items in
    let cut = length-take room.len (c.take.new.window ++ left) in
    let joined = length-append c.take.new.window left in
    let dropped = length-drop (length c.take.new.window) room.items in
    let wide = room.ok.0 in
    record {
      ready = record {
        readers = c.in_ok-take.ensures.number;
        window = omega (arith, cut, joined, dropped, wide, c.loop-round.invariant.ready.window);
      };
      charged = record {
        taps = was.taps ++ taps;
        taken = both_taken known c.args.taker.now.merge.readers.items
            c.loop-round.taker.merge.readers.items c.take.new.self.readers.items
            was.taps taps was.taken (record {
              taken = c.in_ok-take.ensures.taken;
              early = following.early;
              named = following.named;
            });
        bill_is = subst
            (λ (ts : List TapFields). IsOpenBill c.args.table.now (was.taps ++ ts)
            c.add_following.new.so_far)
            c.deref.ensures.value (next.bill c.if-not-is_following.false was.taps was.bill_is);
        nondecreasing = nondecreasing_both from was.taps taps was.nondecreasing
            (subst (λ (t : Token). TapsNondecreasingFrom t taps) was.last following.nondecreasing);
        last = following.is_last
            ∙ ap (λ (t : Token). last_token t taps) was.last
            ∙ sym (last_append from was.taps taps);
        counted = omega (arith, counted, more, size, ok, long);
        few = omega (arith, fits, more);
      };
    }

pub returns-then-is_empty-clause-charged : goal.returns-then-is_empty-clause-charged
returns-then-is_empty-clause-charged g c =
    let was = c.loop-round.invariant.charged in
    let taps = c.take.new.taps.items in
    let none = none_there c.take.new.taps _ c.is_empty.ensures
    c.if-is_empty.true in
    record {
      taps = was.taps;
      taken = last_taken (map g.F.Placed.bytes c.args.files.now)
          c.args.taker.now.merge.readers.items c.loop-round.taker.merge.readers.items
          c.take.new.self.readers.items was.taps taps none was.taken (record {
            taken = c.in_ok-take.ensures.taken;
            early = subst (λ (ts : List TapFields). All Early ts) (sym none) (All-nil Early);
            named = subst (λ (ts : List TapFields). All HasName ts) (sym none) (All-nil HasName);
          });
      bill_is = was.bill_is;
      nondecreasing = was.nondecreasing;
      last = was.last;
      counted = was.counted;
      few = was.few;
    }
