use Rattle.std.proofs.Common.{◌+◌, ◌<◌, ◌∙◌, List, [], ◌++◌, length, take, refl, sym, ap, subst}
use Rattle.std.proofs.Common.{arith}
use Rattle.settlement.proofs.Nondecreasing.{last_append}
use Rattle.settlement.proofs.PartBills.{flat, flat_more, flat_take, next_up, no_order}
use Rattle.settlement.proofs.PartBills.{ranges_joined, sound_before, sound_here}
use Rattle.settlement.specs.Nondecreasing.{last_token}
use Rattle.std.proofs.lemmas.List.{get_or_default, take_all, Folds.length-flat_map-take}
use Rattle.std.proofs.lemmas.List.Sorted.{All-permutation, length_permutation}
use Rattle.tap_parts.specs.Canonical.{IsCanonical}
use Rattle.tap_views.specs.Layout.{moment_limit}
use Rattle.tap_views.specs.declared.{encoder.TapFields.TapFields, token.Token.Token}
use Rattle.settlement.proofs.bill_by_threads.ChargesCharging.bill_of.Goals as goal

abbrev least : Token
least = record { high = 0; low = 0 }

pub loop-pieces-init : goal.loop-pieces-init
loop-pieces-init g c = record {
  order = [];
  canonical = no_order;
  is_open = c.new-bill.ensures.bill c.args.self.now.table.now;
  token = c.new-bill.ensures.token ∙ c.least_token.ensures;
}

pub add-requires-clause-early : goal.add-requires-clause-early
add-requires-clause-early g c =
    let (bounds, start, are, few) = c.requires in
    let part = c.pieces-item.result in
    All-permutation (λ (tap : TapFields). tap.moment < moment_limit) part c.in_ok-taps.taps.now
    c.in_ok-taps.ensures.moved
    (λ k d there. (sound_here bounds start c.loop-pieces.pieces-index c.args.parts.now part are
    c.loop-pieces-test.true c.pieces-item.is k d there).early)

pub add-requires-clause-nondecreasing : goal.add-requires-clause-nondecreasing
add-requires-clause-nondecreasing g c =
    let (bounds, start, are, few) = c.requires in
    let parts = c.args.parts.now in
    let i = c.loop-pieces.pieces-index in
    let part = c.pieces-item.result in
    let before = c.loop-pieces.invariant in
    next_up bounds start (start + i) (start + i + 1) (flat (take i parts)) part before.order
    c.in_ok-taps.taps.now (sound_before bounds start i parts are)
    (sound_here bounds start i parts part are c.loop-pieces-test.true c.pieces-item.is)
    before.canonical c.in_ok-taps.ensures least c.loop-pieces.bill.replay.token refl before.token

pub add-requires-clause-bill : goal.add-requires-clause-bill
add-requires-clause-bill g c =
    let parts = c.args.parts.now in
    let i = c.loop-pieces.pieces-index in
    let part = c.pieces-item.result in
    let before = c.loop-pieces.invariant in
    let done = length_permutation (flat (take i parts)) before.order before.canonical.moved in
    let more = length_permutation part c.in_ok-taps.taps.now c.in_ok-taps.ensures.moved in
    let all = length-flat_map-take (λ (p : List TapFields). p) parts i part
    c.loop-pieces-test.true in
    let here = ap length c.pieces-item.is in
    let few = c.requires.3 in
    (before.order, before.is_open, omega (arith, done, more, all, here, few))

pub loop-pieces-preserved : goal.loop-pieces-preserved
loop-pieces-preserved g c =
    let (bounds, start, are, few) = c.requires in
    let parts = c.args.parts.now in
    let i = c.loop-pieces.pieces-index in
    let inside = c.loop-pieces-test.true in
    let part = c.pieces-item.result in
    let taps = c.in_ok-taps.taps.now in
    let before = c.loop-pieces.invariant in
    record {
      order = before.order ++ taps;
      canonical = subst (λ (ts : List TapFields). IsCanonical ts (before.order ++ taps))
          (sym (flat_more parts i inside ∙ ap (λ (p : List TapFields). flat (take i parts) ++ p)
          (get_or_default parts i [] part inside ∙ sym c.pieces-item.is)))
          (ranges_joined bounds start (start + i) (start + i + 1) (flat (take i parts)) part
          before.order taps (sound_before bounds start i parts are)
          (sound_here bounds start i parts part are inside c.pieces-item.is) before.canonical
          c.in_ok-taps.ensures);
      is_open = c.in_ok-add.ensures.bill before.order before.is_open;
      token = c.in_ok-add.ensures.token ∙ ap (λ (t : Token). last_token t taps) before.token
          ∙ sym (last_append least before.order taps);
    }

pub into_bill-requires : goal.into_bill-requires
into_bill-requires g c =
    let i = c.loop-pieces.pieces-index in
    let done = c.loop-pieces.invariant in
    let long = length_permutation (flat (take i c.args.parts.now)) done.order done.canonical.moved in
    let all = flat_take i c.args.parts.now in
    let few = c.requires.3 in
    (c.args.self.now.table.now, done.order, done.is_open, omega (arith, long, all, few))

pub returns : goal.returns
returns g c =
    let parts = c.args.parts.now in
    let i = c.loop-pieces.pieces-index in
    let done = c.loop-pieces.invariant in
    let long = length_permutation (flat (take i parts)) done.order done.canonical.moved in
    let all = flat_take i parts in
    let few = c.requires.3 in
    record {
      order = done.order;
      canonical = subst (λ (ps : List (List TapFields)). IsCanonical (flat ps) done.order)
          (take_all i parts (omega (arith, c.loop-pieces-test.false))) done.canonical;
      billed = c.in_ok-bill.ensures c.args.self.now.table.now done.order done.is_open;
      few = omega (arith, long, all, few);
    }
