use Rattle.std.proofs.Common.{◌≡◌, List, [], ◌++◌, ◌∷◌, map, ap, ◌∙◌, sym, subst, append_assoc}
use Rattle.std.proofs.Common.{append-nil}
use Rattle.ledger_check.specs.Balances.{IsBalance}
use Rattle.std.proofs.lemmas.List.{map-append}
use Rattle.tap_views.specs.{Encoding.fields_of, Layout.Tap, declared.encoder.TapFields.TapFields}
use Rattle.ledger_check.proofs.balance.Balance.add_batch.Goals as goal

pub loop-tap-init : goal.loop-tap-init
loop-tap-init c = record {
  may = tt;
  ends = tt;
  all = c.into_iter-tap-iterator.ensures.into_iter_gives ∙ c.taps-tap-items.ensures;
  added = λ valid is. subst (λ (ts : List TapFields). IsBalance c.args.self.now ts [])
      (sym (append-nil valid)) is;
}

pub loop-tap-preserved : goal.loop-tap-preserved
loop-tap-preserved c = record {
  may = tt;
  ends = tt;
  all = append_assoc c.loop-tap.yielded (c.in-Some.tap ∷ []) c.next.new.self
      ∙ sym (ap (λ (left : List Tap). c.loop-tap.yielded ++ left) c.in-Some.ensures.steps)
      ∙ c.loop-tap.invariant.all;
  added = λ valid is.
      let before = map fields_of c.loop-tap.yielded in
      let more = c.in_ok-add.ensures (valid ++ before) (c.loop-tap.invariant.added valid is) in
      subst (λ (ts : List TapFields). IsBalance c.add.new.self ts [])
      (append_assoc valid before (c.of.result ∷ [])
      ∙ ap (λ (t : TapFields). valid ++ (before ++ t ∷ [])) c.of.ensures
      ∙ ap (λ (ts : List TapFields).
      valid ++ ts) (sym (map-append fields_of c.loop-tap.yielded (c.in-Some.tap ∷ [])))) more;
}

pub returns : goal.returns
returns c = λ valid is.
    let all : c.loop-tap.yielded ≡ c.args.batch.now =
    sym (append-nil c.loop-tap.yielded)
    ∙ sym (ap (λ (left : List Tap). c.loop-tap.yielded ++ left) c.in-None.ensures.steps.0)
    ∙ c.loop-tap.invariant.all in
    subst (λ (ts : List Tap). IsBalance c.loop-tap.self (valid ++ map fields_of ts) []) all
    (c.loop-tap.invariant.added valid is)
