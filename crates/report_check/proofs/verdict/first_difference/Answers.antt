use Rattle.std.proofs.Common.{◌∙◌, ◌≤◌, ◌<◌, length, arith, rules, tests}
use Rattle.std.proofs.lemmas.Bool.Decides.{nat_tests}
use Rattle.report_check.proofs.Differences.{more_after, none_after}
use Rattle.report_check.proofs.verdict.first_difference.Goals as goal

pub returns-then-is_empty : goal.returns-then-is_empty
returns-then-is_empty c =
    let none : length c.loop-left.left.now ≤ 0 =
    first_of (omega arith, grind (arith, nat_tests), search (rules, tests)) in
    let over : length c.loop-left.rest.now ≤ 0 =
    first_of (omega arith, grind (arith, nat_tests), search (rules, tests)) in
    c.loop-left.invariant.same
    ∙ none_after c.loop-left.number c.loop-left.left.now c.loop-left.rest.now none over

pub returns : goal.returns
returns c =
    let none : length c.loop-left.left.now ≤ 0 =
    first_of (omega arith, grind (arith, nat_tests), search (rules, tests)) in
    let some : 0 < length c.loop-left.rest.now =
    first_of (omega arith, grind (arith, nat_tests), search (rules, tests)) in
    c.loop-left.invariant.same
    ∙ more_after c.loop-left.number c.loop-left.left.now c.loop-left.rest.now none some
