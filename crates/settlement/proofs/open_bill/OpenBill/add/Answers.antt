use Rattle.std.proofs.Common.{List, [], ◌∷◌, ◌++◌, take, refl, sym, ap, subst, ◌∙◌, append_assoc}
use Rattle.std.proofs.Common.{append-nil, arith, length-append}
use Rattle.settlement.proofs.Nondecreasing.{nondecreasing_here, last_append}
use Rattle.settlement.specs.{Nondecreasing.last_token, OpenBills.IsOpenBill}
use Rattle.std.proofs.lemmas.List.{length-take, take_all, take_more}
use Rattle.tap_views.specs.declared.encoder.TapFields.{TapFields}
use Rattle.settlement.proofs.open_bill.OpenBill.add.Goals as goal

pub loop-tap-init : goal.loop-tap-init
loop-tap-init c = record {
  bill = λ before is. subst
      (λ (ts : List TapFields). IsOpenBill c.args.table.now ts c.args.self.now)
      (sym (append-nil before)) is;
  token = refl;
}

pub add_tap-requires-clause-up : goal.add_tap-requires-clause-up
add_tap-requires-clause-up c =
    nondecreasing_here c.args.self.now.replay.token c.loop-tap.self.replay.token c.args.taps.now
    c.loop-tap.tap-index _ c.loop-tap-test.true c.requires.nondecreasing c.loop-tap.invariant.token

pub add_tap-requires-clause-bill : goal.add_tap-requires-clause-bill
add_tap-requires-clause-bill c =
    let (before, is, few) = c.requires.bill in
    let i = c.loop-tap.tap-index in
    let done = take i c.args.taps.now in
    let both = length-append before done in
    let short = length-take i c.args.taps.now in
    let inside = c.loop-tap-test.true in
    (before ++ done, c.loop-tap.invariant.bill before is, omega (arith, both, short, inside, few))

pub loop-tap-preserved : goal.loop-tap-preserved
loop-tap-preserved c =
    let taps = c.args.taps.now in
    let i = c.loop-tap.tap-index in
    let done = take i taps in
    let inv = c.loop-tap.invariant in
    let more = take_more taps i _ c.loop-tap-test.true in
    record {
      bill = λ before is.
          subst (λ (ts : List TapFields). IsOpenBill c.args.table.now ts c.add_tap.new.self)
          (append_assoc before done (_ ∷ [])
          ∙ ap (λ (ts : List TapFields). before ++ ts) (sym more))
          (c.in_ok-add_tap.ensures.bill (before ++ done) (inv.bill before is));
      token = c.in_ok-add_tap.ensures.token
          ∙ sym (ap (last_token c.args.self.now.replay.token) more
          ∙ last_append c.args.self.now.replay.token done (_ ∷ []));
    }

pub returns-clause-bill : goal.returns-clause-bill
returns-clause-bill c = λ before is.
    subst (λ (ts : List TapFields). IsOpenBill c.args.table.now (before ++ ts) c.loop-tap.self)
    (take_all c.loop-tap.tap-index c.args.taps.now c.loop-tap-test.false)
    (c.loop-tap.invariant.bill before is)

pub returns-clause-token : goal.returns-clause-token
returns-clause-token c =
    c.loop-tap.invariant.token
    ∙ ap (last_token c.args.self.now.replay.token)
    (take_all c.loop-tap.tap-index c.args.taps.now c.loop-tap-test.false)
