use Rattle.std.proofs.Common.{◌≡◌, ◌+◌, List, [], ◌∷◌, ◌++◌, get_or, take, refl, ap, sym, subst}
use Rattle.std.proofs.Common.{◌∙◌}
use Rattle.histories.specs.{Entry.own, Plain.answered, declared.entry.Entry.Entry}
use Rattle.settlement.proofs.TokenRuns.{posted_more}
use Rattle.settlement.specs.{Posted.posted, Posted.posted_after, Posted.unposted, Replays.HasPosted}
use Rattle.tap_views.specs.declared.encoder.TapFields.{TapFields}
use Rattle.settled_bills.proofs.one_token.post.Goals as goal

pub loop-tap-init : goal.loop-tap-init
unfolding posted_after own
loop-tap-init c = record {
  token = c.of-replay.ensures.token;
  holds = c.of-replay.ensures.none c.args.table.now [] refl;
  entries = c.in_ok-entries.ensures.items;
}

pub loop-tap-preserved : goal.loop-tap-preserved
loop-tap-preserved c =
    let fares = c.args.table.now in
    let taps = c.args.taps.now in
    let i = c.loop-tap.tap-index in
    let inv = c.loop-tap.invariant in
    let done = posted fares (take i taps) in
    let entry = c.next.result in
    let none : TapFields = record { token = []; validator = 0; moment = 0 } in
    let is : entry ≡ answered fares done (unposted (get_or taps i none)) =
    c.next.ensures.entry done inv.holds in
    let more : posted fares (take (i + 1) taps) ≡ done ++ entry ∷ [] =
    posted_more fares taps i none c.loop-tap-test.true
    ∙ ap (λ (e : Entry). done ++ e ∷ []) (sym is) in
    record {
      token = c.next.ensures.token ∙ inv.token;
      holds = subst (λ (es : List Entry). HasPosted fares c.next.new.self es) (sym more)
          (c.next.ensures.posted done inv.holds);
      entries = c.in_ok-push.ensures.items
          ∙ ap (λ (es : List Entry). es ++ entry ∷ []) inv.entries ∙ sym more;
    }
