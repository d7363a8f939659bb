-- The ride limit is reached: nothing is paid.
use Rattle.std.proofs.Common.{◌≤◌, arith, sym, ap, ◌∙◌}
use Rattle.account_rule.proofs.{LimitLemmas.limit_from, WindowLemmas.with_free}
use Rattle.account_rule.specs.Windows.{paid_by}
use Rattle.account_rule.proofs.window.Window.add_ride.Goals as goal

pub returns-then-from-terms-clause-cost : goal.returns-then-from-terms-clause-cost
returns-then-from-terms-clause-cost c =
    let limit : c.args.terms.rides ≤ c.args.self.now.rides =
    omega (arith, c.from.ensures, c.if-from-terms.true) in
    sym (ap paid_by (limit_from c.args.terms c.args.self.now.rides c.args.self.now.cents limit))

pub returns-then-from-terms-clause-counts : goal.returns-then-from-terms-clause-counts
returns-then-from-terms-clause-counts c =
    let limit : c.args.terms.rides ≤ c.args.self.now.rides =
    omega (arith, c.from.ensures, c.if-from-terms.true) in
    c.count_free_ride.ensures ∙ with_free c.args.terms c.args.self.now limit
