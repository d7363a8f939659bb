use Rattle.std.proofs.Common.{◌≡◌, ◌<◌, ◌++◌, ◌∷◌, [], ℕ, All, List, Option, ap, sym, subst, ◌∙◌}
use Rattle.std.proofs.Common.{append_assoc, append-nil, arith, rules}
use Rattle.ledger_check.proofs.Balanced.{zero_or_none}
use Rattle.std.proofs.lemmas.List.Elements.{All-nil, All-push}
use Rattle.std.proofs.lemmas.Map.{Entries.All-lookup, Iter.btree_map_turn}
use Rattle.std.specs.{BTreeMap.is_at, Map.Iter.deref_pair, Option.unwrap_or}
use Rattle.tap_views.proofs.TapOrders.{tap_cmp_total}
use Rattle.tap_views.specs.{TapOrder.tap_cmp, declared.encoder.TapFields.TapFields}
use Rattle.ledger_check.proofs.balance.first_left.Goals as goal

-- none is left by this entry
abbrev pub Zero : TapFields × ℕ → Type 0
Zero e = e.1 ≡ 0

pub loop-tap-init : goal.loop-tap-init
loop-tap-init c = record {
  may = tt;
  ends = tt;
  zero = ([], search rules, All-nil Zero);
}

pub loop-tap-preserved : goal.loop-tap-preserved
loop-tap-preserved c =
    let zero = c.loop-tap.invariant.zero in
    let entry : TapFields × ℕ = (c.in-Some.tap.now, c.in-Some.count.now) in
    record {
      may = tt;
      ends = tt;
      zero = (
        zero.0 ++ entry ∷ [],
        zero.1 ∙ ap (λ (left : List (TapFields × ℕ)). zero.0 ++ left) c.in-Some.ensures.steps
            ∙ sym (append_assoc zero.0 (entry ∷ []) c.next.new.self),
        All-push Zero zero.0 entry zero.2 (omega (arith, c.if-count-gt0.false)),
      );
    }

pub returns-then-count-gt0-clause-found : goal.returns-then-count-gt0-clause-found
returns-then-count-gt0-clause-found c =
    let turn = btree_map_turn deref_pair c.loop-tap.yielded c.into_iter-tap-iterator.result
    c.loop-tap.tap-iterator c.next.new.self c.next.result
    (c.in-Some.tap, c.in-Some.count) c.loop-tap.yielded_by c.in-Some.is c.next.ensures.steps
    tap_cmp_total c.args.left.now (search rules) (search rules) in
    subst (λ (o : Option ℕ). 0 < unwrap_or o 0) (sym turn.1) c.if-count-gt0.true

pub returns-clause-none : goal.returns-clause-none
returns-clause-none c = λ tap.
    let zero = c.loop-tap.invariant.zero in
    let all : All Zero c.args.left.now.entries = subst (All Zero)
    (sym (append-nil zero.0)
    ∙ sym (zero.1 ∙ ap (λ (left : List (TapFields × ℕ)). zero.0 ++ left) c.in-None.ensures.steps.0))
    zero.2 in
    zero_or_none _ (All-lookup (λ (n : ℕ). n ≡ 0) (is_at (tap_cmp tap)) c.args.left.now.entries all)
