use Rattle.std.proofs.Common.{◌≡◌, ◌∙◌, [], None, append-nil, rules, string_bytes, sym, tests}
use Rattle.omny_audit.proofs.check.Check.feed.Goals as goal

pub returns-in_ok-verdict-in-First-clause-fed : goal.returns-in_ok-verdict-in-First-clause-fed
returns-in_ok-verdict-in-First-clause-fed c = λ valid text written has.
    let (before, empty) = rw c.in-First.is at has in
    let none : c.in-First.verdict ≡ None = first_of (cc, search (rules, tests)) in (
      [],
      sym (append-nil (string_bytes c.args.reported.now)),
      (c.in_ok-verdict-in-First.ensures text valid (rw none at before), append-nil written ∙ empty),
    )
