use Rattle.std.proofs.Common.{◌≡◌, ◌≤◌, ◌-◌, suc, Some, arith, sym, ap, ◌∙◌, length, map, slice_get}
use Rattle.std.specs.Arc.{arc_value}
use Rattle.tariffs.proofs.DatedLemmas.{got, meaning-modes, nth_valid, nth-get, valid-started}
use Rattle.tariffs.specs.Fares.{Fares, meaning_at}
use Rattle.tariffs.specs.inside.Table.{started, dated_meaning}
use Rattle.tariffs.proofs.table.FareTable.later_at.Goals as goal

pub returns-then-started-eq0-clause-meaning : goal.returns-then-started-eq0-clause-meaning
unfolding meaning_at
returns-then-started-eq0-clause-meaning c =
    let first = arc_value c.self.inside.first in
    let later = map dated_meaning c.self.inside.later.items in
    let none : started c.args.moment later ≡ 0 =
    sym (rw c.deref.ensures.value at c.started-started.ensures.count) ∙ c.if-started-eq0.true in
    ap (λ t. t.meaning) c.deref-then-started-eq0.ensures
    ∙ ap (nth_valid first.meaning later) (sym none)
    ∙ sym (valid-started first.meaning later c.args.moment)
    ∙ ap (λ (fares : Fares). meaning_at fares c.args.moment) c.self.view_is

pub returns-else-started-eq0-clause-meaning : goal.returns-else-started-eq0-clause-meaning
unfolding meaning_at
returns-else-started-eq0-clause-meaning c =
    let first = arc_value c.self.inside.first in
    let later = map dated_meaning c.self.inside.later.items in
    let position = c.started-started.result - 1 in
    let count : started c.args.moment later ≡ suc position =
    sym (rw c.deref.ensures.value at c.started-started.ensures.count)
    ∙ omega (arith, c.if-started-eq0.false) in
    let items = c.self.inside.later.items in
    let bound : c.started-started.result ≤ length items =
    rw c.deref.ensures.value at c.started-started.ensures.bound in
    let there : slice_get later position ≡ Some (dated_meaning c.index.result.now) =
    got items position c.index.result.now (omega (arith, bound, c.if-started-eq0.false))
    c.index.ensures in
    ap (λ t. t.meaning) c.deref-else-started-eq0.ensures
    ∙ sym (nth-get first.meaning later position (dated_meaning c.index.result.now) there)
    ∙ ap (nth_valid first.meaning later) (sym count)
    ∙ sym (valid-started first.meaning later c.args.moment)
    ∙ ap (λ (fares : Fares). meaning_at fares c.args.moment) c.self.view_is

pub returns-else-started-eq0-clause-modes : goal.returns-else-started-eq0-clause-modes
returns-else-started-eq0-clause-modes c =
    ap (λ m. m.modes) (returns-else-started-eq0-clause-meaning c)
    ∙ meaning-modes c.args.self.now c.args.moment (rw (← c.self.view_is) c.self.invariant.alike)
