use Rattle.std.proofs.Common.{◌≡◌, ◌++◌, ◌∷◌, [], ℕ, List, ap, sym, ◌∙◌, append_assoc, append-nil}
use Rattle.std.proofs.Common.{rules}
use Rattle.ledger_check.proofs.Spread.{copies-spread, spread, times}
use Rattle.ledger_check.specs.Balances.{copies_among}
use Rattle.std.proofs.{Math.ListN.replicate, lemmas.List.flat_map_more}
use Rattle.std.specs.BTreeMap.{IsOrdered}
use Rattle.tap_views.specs.{TapOrder.tap_cmp, declared.encoder.TapFields.TapFields}
use Rattle.ledger_check.proofs.full_balance.taps_left.Goals as goal

pub loop-tap-preserved : goal.loop-tap-preserved
loop-tap-preserved c =
    let before = c.loop-tap.invariant.spread_is in
    let entry : TapFields × ℕ = (c.in-Some.tap.now, c.in-Some.count.now) in
    record {
      may = tt;
      ends = tt;
      spread_is = (
        before.0 ++ entry ∷ [],
        before.1 ∙ ap (λ (left : List (TapFields × ℕ)). before.0 ++ left) c.in-Some.ensures.steps
            ∙ sym (append_assoc before.0 (entry ∷ []) c.next.new.self),
        c.in_ok-push_times.ensures
            ∙ ap (λ (ts : List TapFields). ts ++ replicate c.in-Some.count.now c.in-Some.tap.now)
            before.2
            ∙ flat_map_more times [] before.0 entry,
      );
    }

pub returns : goal.returns
returns c = λ tap.
    let before = c.loop-tap.invariant.spread_is in
    let all : c.args.left.now.entries ≡ before.0 =
    before.1 ∙ ap (λ (left : List (TapFields × ℕ)). before.0 ++ left) c.in-None.ensures.steps.0
    ∙ append-nil before.0 in
    let ordered : IsOrdered tap_cmp c.args.left.now = search rules in
    ap (copies_among tap) (before.2 ∙ ap spread (sym all))
    ∙ copies-spread c.args.left.now.entries tap ordered
