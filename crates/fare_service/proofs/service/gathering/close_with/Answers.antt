use Rattle.std.proofs.Common.{◌≡◌, length, sym, ◌∙◌, ap, subst}
use Rattle.fare_service.proofs.CloseLemmas.{no_shares, some_shares, closed_none, closed_all}
use Rattle.fare_service.proofs.CloseLemmas.{held_drawn, joined_whole, first_missing, first_unseen}
use Rattle.fare_service.proofs.CloseLemmas.{first_drawn, first_undrawn, none_whole, lacks_whole}
use Rattle.fare_service.proofs.CloseLemmas.{drawer_whole}
use Rattle.fare_service.proofs.service.gathering.close_with.Goals.{in-Ok, in-Err-finish_unseen}
use Rattle.fare_service.specs.{Claims.HaveAllClaims, Closing.ReportsFirst}
use Rattle.fare_service.specs.{declared.faults.GatherFault.GatherFault, inside.Closing.IsClosedWork}
use Rattle.fare_service.specs.inside.Joining.{with_runs}
use Rattle.std.specs.Prelude.{Result, IfErr}
use Rattle.tap_views.proofs.Choices.{OnErr_any, OnOk_any}
use Rattle.fare_service.proofs.service.gathering.close_with.Goals as goal

-- ---- without a share
pub returns-then-is_empty-clause-ok : goal.returns-then-is_empty-clause-ok
returns-then-is_empty-clause-ok c =
    let ok = c.in_default.ensures in
    OnOk_any c.match-finish_unseen.result
    (IsClosedWork c.args.books.items c.args.shares.items c.close_unseen.new.closed.items)
    (closed_none c.args.books.items c.args.shares.items c.close_unseen.new.closed.items
    (no_shares c.args.shares.items _ _ c.args.shares.ok.0 c.is_empty.ensures c.if-is_empty.true)
    ok.number ok.ok)

pub returns-then-is_empty-clause-calls : goal.returns-then-is_empty-clause-calls
returns-then-is_empty-clause-calls c =
    OnOk_any c.match-finish_unseen.result
    (c.args.calls.now.run ≡ with_runs c.args.calls.now.run c.args.shares.items)
    (ap (with_runs c.args.calls.now.run) (sym (no_shares c.args.shares.items _ _
    c.args.shares.ok.0 c.is_empty.ensures c.if-is_empty.true)))

pub returns-in-Err-clause-first : goal.returns-in-Err-clause-first
returns-in-Err-clause-first c =
    first_unseen c.args.books.items c.args.draw.numbers c.args.shares.items
    c.close_unseen.new.closed.items c.in-Err.fault
    (no_shares c.args.shares.items _ _ c.args.shares.ok.0 c.is_empty.ensures c.if-is_empty.true)
    c.in-Err.ensures.first

pub returns-then-is_empty-clause-first : goal.returns-then-is_empty-clause-first
returns-then-is_empty-clause-first c =
    let ok = c.in_default.ensures in
    let R : Result (Unit {0}) GatherFault → Type 0 =
    λ r. IfErr r (ReportsFirst c.args.books.items c.args.draw.numbers c.args.shares.items) in
    elim c.match-finish_unseen.branch [
      | in-Ok w ↦ subst R (sym w.result-is) tt
      | in-Err-finish_unseen w ↦ subst R (sym w.result-is)
          (first_undrawn c.args.books.items c.args.draw.numbers c.args.shares.items
          c.close_unseen.new.closed.items w.in-Err-finish_unseen.missing.held
          w.in-Err-finish_unseen.missing.drawn
          (no_shares c.args.shares.items _ _ c.args.shares.ok.0 c.is_empty.ensures
          c.if-is_empty.true) ok.ok ok.number (w.in-Err-finish_unseen.ensures).err.2)
    ]

pub returns-in-Err-clause-claims : goal.returns-in-Err-clause-claims
returns-in-Err-clause-claims c =
    none_whole (length c.args.books.items) c.args.shares.items
    (no_shares c.args.shares.items _ _ c.args.shares.ok.0 c.is_empty.ensures c.if-is_empty.true)

pub returns-then-is_empty-clause-claims : goal.returns-then-is_empty-clause-claims
returns-then-is_empty-clause-claims c =
    OnErr_any c.match-finish_unseen.result
    (HaveAllClaims (length c.args.books.items) c.args.shares.items → ⊥)
    (none_whole (length c.args.books.items) c.args.shares.items
    (no_shares c.args.shares.items _ _ c.args.shares.ok.0 c.is_empty.ensures c.if-is_empty.true))

-- ---- with shares, which were joined
pub returns-in-Ok-finish-clause-ok : goal.returns-in-Ok-finish-clause-ok
returns-in-Ok-finish-clause-ok c =
    let ok = c.in_default-close_all.ensures in
    let done = (c.in-Ok-finish.ensures).ok in
    let split = some_shares c.args.shares.items c.remove-first.result c.remove-first.new.self.items
    _ _ c.args.shares.ok.0 c.is_empty.ensures c.if-is_empty.false c.remove-first.ensures.value
    c.remove-first.ensures.items in
    let all = joined_whole c.args.draw c.args.shares.items _ _ _ _ c.args.books.items _ split
    c.as_slice.ensures.value c.join_shares-drawer.ensures.joined in
    closed_all c.args.draw c.args.books.items c.args.shares.items c.join_shares-drawer.result.0
    c.join_shares-drawer.result.1.items c.close_all.new.closed.items c.in-Ok-finish.field-0
    all ok.ok ok.number done.0 done.2

pub returns-in-Ok-finish-clause-calls : goal.returns-in-Ok-finish-clause-calls
returns-in-Ok-finish-clause-calls c =
    c.join_shares-drawer.ensures.calls ∙ ap (with_runs c.args.calls.now.run)
    (sym (some_shares c.args.shares.items c.remove-first.result c.remove-first.new.self.items _ _
    c.args.shares.ok.0 c.is_empty.ensures c.if-is_empty.false c.remove-first.ensures.value
    c.remove-first.ensures.items))

pub returns-in-Err-close_all-clause-first : goal.returns-in-Err-close_all-clause-first
returns-in-Err-close_all-clause-first c =
    let split = some_shares c.args.shares.items c.remove-first.result c.remove-first.new.self.items
    _ _ c.args.shares.ok.0 c.is_empty.ensures c.if-is_empty.false c.remove-first.ensures.value
    c.remove-first.ensures.items in
    first_missing c.args.draw c.args.books.items c.args.draw.numbers c.args.shares.items
    c.join_shares-drawer.result.0 c.join_shares-drawer.result.1.items c.close_all.new.closed.items
    c.in-Err-close_all.fault
    (joined_whole c.args.draw c.args.shares.items _ _ _ _ c.args.books.items _ split
    c.as_slice.ensures.value c.join_shares-drawer.ensures.joined) c.in-Err-close_all.ensures.first

pub returns-in-Err-close_all-clause-claims : goal.returns-in-Err-close_all-clause-claims
returns-in-Err-close_all-clause-claims c =
    let split = some_shares c.args.shares.items c.remove-first.result c.remove-first.new.self.items
    _ _ c.args.shares.ok.0 c.is_empty.ensures c.if-is_empty.false c.remove-first.ensures.value
    c.remove-first.ensures.items in
    lacks_whole c.args.draw c.args.books.items (length c.args.shares.items) c.args.shares.items
    c.join_shares-drawer.result.0 c.join_shares-drawer.result.1.items c.in-Err-close_all.fault
    (joined_whole c.args.draw c.args.shares.items _ _ _ _ c.args.books.items _ split
    c.as_slice.ensures.value c.join_shares-drawer.ensures.joined) c.in-Err-close_all.ensures.claims

pub returns-in-Err-finish : goal.returns-in-Err-finish
returns-in-Err-finish c =
    let missing = (c.in-Err-finish.ensures).err in
    let ok = c.in_default-close_all.ensures in
    let split = some_shares c.args.shares.items c.remove-first.result c.remove-first.new.self.items
    _ _ c.args.shares.ok.0 c.is_empty.ensures c.if-is_empty.false c.remove-first.ensures.value
    c.remove-first.ensures.items in
    let all = joined_whole c.args.draw c.args.shares.items _ _ _ _ c.args.books.items _ split
    c.as_slice.ensures.value c.join_shares-drawer.ensures.joined in
    record {
      ok = tt;
      calls = tt;
      fault = (
        missing.0 ∙ held_drawn c.args.draw c.args.books.items (length c.args.shares.items)
            c.args.shares.items c.join_shares-drawer.result.0 c.join_shares-drawer.result.1.items
            all,
        missing.1,
      );
      first = first_drawn c.args.draw c.args.books.items c.args.shares.items
          c.join_shares-drawer.result.0 c.join_shares-drawer.result.1.items
          c.close_all.new.closed.items c.in-Err-finish.missing.held c.in-Err-finish.missing.drawn
          all ok.ok ok.number missing.2;
      claims = drawer_whole c.args.draw c.args.books.items (length c.args.shares.items)
          c.args.shares.items c.join_shares-drawer.result.0 c.join_shares-drawer.result.1.items all
          (c.in-Err-finish.ensures).claims;
    }
