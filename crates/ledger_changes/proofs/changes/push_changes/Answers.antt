use Rattle.std.proofs.Common.{◌∙◌, ◌∷◌, ◌++◌, [], ap, append_assoc, append-nil, filter, refl, subst}
use Rattle.std.proofs.Common.{sym, Option, List, ℕ, option_map}
use Rattle.ledger_changes.proofs.Walking.{can_be_read, moved, moved_end, moved_next, stops}
use Rattle.ledger_changes.specs.{Changes.is_changed, Given.IsWalked, Tokens.lines_of_changes}
use Rattle.ledger_changes.specs.{Tokens.sums_line, declared.fault.Bill.TheVariants.New}
use Rattle.ledger_changes.specs.declared.{fault.Bill.TheVariants.Old, pairs.LinePair.LinePair}
use Rattle.ledger_changes.specs.inside.{Readings.rows_at, Views.pair_of, Views.sum_in}
use Rattle.recorded_lines.proofs.Reading.{follows_on, follows_self}
use Rattle.recorded_lines.specs.Texts.{calls_of}
use Rattle.std.proofs.lemmas.Result.{err_from_is_err_and}
use Rattle.std.specs.Prelude.{option_to_list}
use Rattle.ledger_changes.proofs.changes.push_changes.Goals as goal

pub loop-init : goal.loop-init
loop-init c = record {
  old_bill = refl;
  new_bill = refl;
  follow_old = follows_self c.args.old.now.from;
  follow_new = follows_self c.args.new.now.from;
  ended = λ old new. (old, new);
  walked = λ text w. subst (λ (t : List ℕ). IsWalked c.args.is_by_token t
      c.args.tally.now.removed (sum_in c.args.tally.now.last) c.args.old.now c.args.new.now)
      (sym (ap (λ (p : List ℕ). text ++ p) c.requires ∙ append-nil text)) w;
}

pub returns-in_err-before-clause-follow : goal.returns-in_err-before-clause-follow
returns-in_err-before-clause-follow c =
    (follows_on _ _ _ c.loop.invariant.follow_old c.row_if.ensures.follows, c.loop.invariant.follow_new)

pub returns-in_err-after-clause-follow : goal.returns-in_err-after-clause-follow
returns-in_err-after-clause-follow c = (
  follows_on _ _ _ c.loop.invariant.follow_old c.row_if.ensures.follows,
  follows_on _ _ _ c.loop.invariant.follow_new c.row_if-in-loop.ensures.follows,
)

pub returns-in_default-clause-follow : goal.returns-in_default-clause-follow
returns-in_default-clause-follow c = (
  follows_on _ _ _ c.loop.invariant.follow_old c.row_if.ensures.follows,
  follows_on _ _ _ c.loop.invariant.follow_new c.row_if-in-loop.ensures.follows,
)

pub returns-in_err-push_sums-clause-follow : goal.returns-in_err-push_sums-clause-follow
returns-in_err-push_sums-clause-follow c = (
  follows_on _ _ _ c.loop.invariant.follow_old c.row_if.ensures.follows,
  follows_on _ _ _ c.loop.invariant.follow_new c.row_if-in-loop.ensures.follows,
)

pub returns-in_err-take_pair-clause-follow : goal.returns-in_err-take_pair-clause-follow
returns-in_err-take_pair-clause-follow c = (
  follows_on _ _ _ c.loop.invariant.follow_old c.row_if.ensures.follows,
  follows_on _ _ _ c.loop.invariant.follow_new c.row_if-in-loop.ensures.follows,
)

pub returns-in_err-before-clause-stopped : goal.returns-in_err-before-clause-stopped
returns-in_err-before-clause-stopped c =
    let p = err_from_is_err_and c.from_residual.result c.from_residual.ensures.1 in
    let new = calls_of c.loop.new.from in
    rw (p.1, p.2) (λ text of_old of_new w.
    stops _ Old (calls_of c.row_if.new.self.from) new
    (λ whole. rows_at c.loop.old whole) (c.loop.invariant.old_bill ∙ of_old)
    c.in_err-before.ensures.wrong (λ whole can wrong is.
    (c.loop.invariant.walked text w whole new.reading.bytes
    (c.row_if.ensures.follows.back whole can) (can_be_read new)).wrong_old wrong is))

pub returns-in_err-after-clause-stopped : goal.returns-in_err-after-clause-stopped
returns-in_err-after-clause-stopped c =
    let p = err_from_is_err_and c.from_residual-in_err-after.result
    c.from_residual-in_err-after.ensures.1 in
    let old = calls_of c.loop.old.from in
    rw (p.1, p.2) (λ text of_old of_new w.
    stops _ New (calls_of c.row_if.new.self.from)
    (calls_of c.row_if-in-loop.new.self.from) (λ whole. rows_at c.loop.new whole)
    (c.loop.invariant.new_bill ∙ of_new) c.in_err-after.ensures.wrong (λ whole can wrong is.
    (c.loop.invariant.walked text w old.reading.bytes whole (can_be_read old)
    (c.row_if-in-loop.ensures.follows.back whole can)).wrong_new wrong is))

pub returns-in_default-clause-given : goal.returns-in_default-clause-given
returns-in_default-clause-given c = (
  λ old new.
      let (o, n) = c.loop.invariant.ended old new in
      (c.in_ok-before.ensures.ended o, c.in_ok-after.ensures.ended n),
  λ text w o n can_o can_n. moved_end (c.loop.invariant.walked text w o n (c.row_if.ensures.follows.back o can_o)
      (c.row_if-in-loop.ensures.follows.back n can_n))
      (moved c.loop.old c.loop.new o n c.next_sides-has_old.ensures c.in_ok-before.ensures.row
      c.in_ok-after.ensures.row
      (c.in_ok-before.ensures.moved o can_o) (c.in_ok-after.ensures.moved n can_n))
      (sym (ap (λ (pair : Option LinePair). option_to_list (option_map pair_of pair)) c.in_default.is)
      ∙ c.of_rows.ensures)
      (ap (λ (p : List ℕ). text ++ p) c.in_ok-push_sums.ensures
      ∙ sym (append_assoc text c.loop.piece.items (sums_line (sum_in c.loop.tally.last)))),
)

pub loop-preserved : goal.loop-preserved
loop-preserved c = record {
  old_bill = c.in_ok-before.ensures.bill ∙ c.loop.invariant.old_bill;
  new_bill = c.in_ok-after.ensures.bill ∙ c.loop.invariant.new_bill;
  follow_old = follows_on _ _ _ c.loop.invariant.follow_old c.row_if.ensures.follows;
  follow_new = follows_on _ _ _ c.loop.invariant.follow_new c.row_if-in-loop.ensures.follows;
  ended = λ old new.
      let (o, n) = c.loop.invariant.ended old new in
      (c.in_ok-before.ensures.ended o, c.in_ok-after.ensures.ended n);
  walked = λ text w o n can_o can_n. moved_next (c.loop.invariant.walked text w o n (c.row_if.ensures.follows.back o can_o)
      (c.row_if-in-loop.ensures.follows.back n can_n))
      (moved c.loop.old c.loop.new o n c.next_sides-has_old.ensures c.in_ok-before.ensures.row
      c.in_ok-after.ensures.row
      (c.in_ok-before.ensures.moved o can_o) (c.in_ok-after.ensures.moved n can_n))
      (sym (ap (λ (pair : Option LinePair). option_to_list (option_map pair_of pair)) c.in-Some.is)
      ∙ c.of_rows.ensures)
      (ap (λ (p : List ℕ). text ++ p) c.in_ok-take_pair.ensures.lines
      ∙ sym (append_assoc text c.loop.piece.items (lines_of_changes c.args.is_by_token
      (sum_in c.loop.tally.last) (filter is_changed (pair_of c.in-Some.pair ∷ [])))))
      c.in_ok-take_pair.ensures.sums c.in_ok-take_pair.ensures.removed;
}
