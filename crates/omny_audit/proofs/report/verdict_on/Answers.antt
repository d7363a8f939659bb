use Rattle.std.proofs.Common.{List, None, Option, Some, ◌≡◌, rules, subst, sym, tests, true}
use Rattle.histories.specs.declared.entry.Entry.{Entry}
use Rattle.ledger_check.specs.{Sums.AreSumsOf, declared.open_sums.EntrySums.EntrySums}
use Rattle.std.proofs.lemmas.Option.{same_Some}
use Rattle.std.specs.Prelude.{IfSome}
use Rattle.omny_audit.proofs.report.verdict_on.Goals as goal

are_of : (entries : List Entry) (sums : Option EntrySums) (made : EntrySums) → sums ≡ Some made
    → IfSome sums (AreSumsOf entries) → AreSumsOf entries made
are_of entries None made is are = absurd cc
are_of entries (Some other) made is are = subst (AreSumsOf entries) (same_Some other made is) are

-- the verdict is true beside whatever entries the ledger has, since the sums are theirs
pub returns : goal.returns
returns c = λ fares ledger sums.
    let right : c.args.is_right ≡ true = first_of (cc, search (rules, tests)) in
    rw (c.in-Some.is, right) (λ entries of.
    rw (sym c.as_slice.ensures.value) (c.in_ok-verdict.ensures entries
    (are_of entries c.args.sums.now c.in-Some-sums.sums c.in-Some-sums.is (sums right entries of))))
