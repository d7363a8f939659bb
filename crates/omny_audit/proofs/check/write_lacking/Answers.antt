use Rattle.std.proofs.Common.{◌≡◌, [], true, false, refl, sym, append-nil, rules, tests}
use Rattle.std.proofs.Common.{string_bytes}
use Rattle.omny_audit.proofs.FindingLemmas.{none_is}
use Rattle.omny_audit.proofs.check.write_lacking.Goals as goal

pub returns-then-not-subtracts : goal.returns-then-not-subtracts
returns-then-not-subtracts c =
    let none : c.args.subtracts ≡ false = first_of (cc, search (rules, tests)) in
    rw none (
      [],
      sym (append-nil (string_bytes c.args.reported.now)),
      λ valid taps subtracted. (refl, (λ yes. tt, λ has. refl)),
    )

pub returns : goal.returns
returns c =
    let some : c.args.subtracts ≡ true = first_of (cc, search (rules, tests)) in
    let missing = c.as_slice-missing_taps.result.now in
    let surplus = c.as_slice-surplus_taps.result.now in
    let written = c.in_ok-write_differences.ensures in
    let laws = c.even_sides_lack_nothing.ensures in
    rw some (
      written.0,
      written.2,
      λ valid taps subtracted.
          let lacks = rw (sym c.as_slice-missing_taps.ensures.value) at
          (c.in_ok-missing.ensures valid taps (subtracted refl)) in
          let lacks_too = rw (sym c.as_slice-surplus_taps.ensures.value) at
          (c.in_ok-surplus.ensures valid taps (subtracted refl)) in (
            (missing, surplus, lacks, lacks_too, written.1),
            rw (c.is_empty.ensures, c.is_empty-2.ensures) (none_is valid taps missing surplus
                (laws.none valid taps missing surplus lacks lacks_too) (laws.even valid taps) lacks
                lacks_too),
          ),
    )
