-- Each turn adds a tap that may follow.
use Rattle.std.proofs.Common.{List, [], ◌∷◌, ◌++◌, take, get_or, refl, sym, ap, subst, ◌∙◌, arith}
use Rattle.std.proofs.Common.{append-nil, append_assoc, length-append}
use Rattle.std.proofs.lemmas.List.{length-take, take_all, take_more}
use Rattle.settlement.specs.OpenBills.{IsOpenBill}
use Rattle.settled_bills.proofs.Takings.{none_follow, one_follows}
use Rattle.settled_bills.specs.inside.Taken.{AreFollowing}
use Rattle.tap_views.specs.{TokenOrder.IsUpTo, declared.encoder.TapFields.TapFields}
use Rattle.tap_views.specs.declared.token.Token.{Token}
use Rattle.settled_bills.proofs.charges.add_following.Goals as goal

pub loop-tap-init : goal.loop-tap-init
loop-tap-init c = record {
  following = none_follow c.args.so_far.now.replay.token;
  bill = λ before is. subst
      (λ (ts : List TapFields). IsOpenBill c.args.table.now ts c.args.so_far.now)
      (sym (append-nil before)) is;
}

pub add_tap-requires-clause-early : goal.add_tap-requires-clause-early
add_tap-requires-clause-early c = c.if-not-may_follow.ensures.early refl

pub add_tap-requires-clause-up : goal.add_tap-requires-clause-up
add_tap-requires-clause-up c =
    subst (λ (t : Token). IsUpTo c.loop-tap.so_far.replay.token t) c.name_of-token.ensures.token
    (subst (λ (t : Token). IsUpTo t c.name_of-token.result) c.token-last.ensures
    (c.if-not-may_follow.ensures.up refl))

pub add_tap-requires-clause-bill : goal.add_tap-requires-clause-bill
add_tap-requires-clause-bill c =
    let (before, is, few) = c.requires.bill in
    let i = c.loop-tap.tap-index in
    let done = take i c.args.taps.now in
    let both = length-append before done in
    let short = length-take i c.args.taps.now in
    let inside = c.loop-tap-test.true in
    (before ++ done, c.loop-tap.invariant.bill before is, omega (arith, both, short, inside, few))

pub loop-tap-preserved : goal.loop-tap-preserved
loop-tap-preserved c =
    let taps = c.args.taps.now in
    let i = c.loop-tap.tap-index in
    let no_tap : TapFields = record { token = []; validator = 0; moment = 0 } in
    let tap = get_or taps i no_tap in
    let done = take i taps in
    let was = c.loop-tap.invariant in
    let more = take_more taps i no_tap c.loop-tap-test.true in
    let from = c.args.so_far.now.replay.token in
    let last = c.loop-tap.so_far.replay.token in
    let token = c.name_of-token.result in
    let new = c.add_tap.new.self in
    record {
      following = subst (λ (ts : List TapFields). AreFollowing from ts new.replay.token) (sym more)
          (subst (λ (t : Token). AreFollowing from (done ++ tap ∷ []) t)
          (c.name_of-token.ensures.token ∙ sym c.in_ok-add_tap.ensures.token)
          (one_follows from done last tap token was.following
          (c.if-not-may_follow.ensures.early refl) c.name_of-token.ensures.named
          c.name_of-token.ensures.token
          (subst (λ (t : Token). IsUpTo t token) c.token-last.ensures
          (c.if-not-may_follow.ensures.up refl))));
      bill = λ before is.
          subst (λ (ts : List TapFields). IsOpenBill c.args.table.now ts new)
          (append_assoc before done (_ ∷ [])
          ∙ ap (λ (ts : List TapFields). before ++ ts) (sym more))
          (c.in_ok-add_tap.ensures.bill (before ++ done) (was.bill before is));
    }

pub returns-clause-following : goal.returns-clause-following
returns-clause-following c = λ _.
    subst (λ (ts : List TapFields).
    AreFollowing c.args.so_far.now.replay.token ts c.loop-tap.so_far.replay.token)
    (take_all c.loop-tap.tap-index c.args.taps.now c.loop-tap-test.false)
    c.loop-tap.invariant.following

pub returns-clause-bill : goal.returns-clause-bill
returns-clause-bill c = λ _ before is.
    subst (λ (ts : List TapFields). IsOpenBill c.args.table.now (before ++ ts) c.loop-tap.so_far)
    (take_all c.loop-tap.tap-index c.args.taps.now c.loop-tap-test.false)
    (c.loop-tap.invariant.bill before is)
