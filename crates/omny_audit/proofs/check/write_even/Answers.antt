use Rattle.std.proofs.Common.{◌≡◌, [], append-nil, false, refl, rules, string_bytes, sym, tests, true}
use Rattle.omny_audit.proofs.FindingLemmas.{even_is}
use Rattle.std.specs.Prelude.{is_some, not}
use Rattle.omny_audit.proofs.check.write_even.Goals as goal

pub returns-then-not-is_compared : goal.returns-then-not-is_compared
returns-then-not-is_compared c =
    let none : c.args.is_compared ≡ false = first_of (cc, search (rules, tests)) in
    rw none ([], sym (append-nil (string_bytes c.args.reported.now)), (refl, refl))

pub returns : goal.returns
returns c =
    let some : c.args.is_compared ≡ true = first_of (cc, search (rules, tests)) in
    let (rest, is, grown) = c.in_ok-write_difference.ensures in
    let difference = c.difference-difference.result in
    let tested : c.is_none.result ≡ not (is_some difference) = first_of (cc, search (rules, tests))
    in
    rw some (
      rest,
      grown,
      (
        difference,
        is,
        λ valid others balance.
            let differ = c.difference-difference.ensures valid others balance in (
              differ,
              rw tested (even_is c.differences_are_real.ensures.apart valid others
                  difference differ),
            ),
      ),
    )
