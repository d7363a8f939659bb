use Rattle.std.proofs.Common.{◌∙◌, Bor, List, Option, ap, inl, length, map, option_map}
use Rattle.std.proofs.Common.{refl, subst, ℕ}
use Rattle.std.proofs.lemmas.Option.{slice_get-map, slice_get_read}
use Rattle.fare_program.specs.Causes.{AreWrongSorted}
use Rattle.fare_program.specs.inside.Fault.{Shows, of_sorted}
use Rattle.settled_bills.specs.Faults.{IsBillFault}
use Rattle.sorted_taps.specs.{Checked.IsFirstUnsorted, declared.fault.SortedFault.SortedFault}
use Rattle.sorted_taps.specs.declared.fault.SortedFault.TheVariants as sorted
use Rattle.fare_program.proofs.fault.Fault.of_bill.Goals as goal

abbrev name_in : Bor (List ℕ) → List ℕ
name_in name = name.now

unsorted : (names : List (List ℕ)) (known : List (Option (List ℕ))) (name : List ℕ)
    (fault : SortedFault) → IsFirstUnsorted names known name fault
    → Shows (AreWrongSorted names known) (Unit {0}) (of_sorted fault)
unsorted names known name sorted.Unread is = tt
unsorted names known name sorted.NoMemory is = tt
unsorted names known name (sorted.OutOfOrder tap) is = inl (name, sorted.OutOfOrder tap, is)
unsorted names known name (sorted.Layout offset fault) is =
    inl (name, sorted.Layout offset fault, is)

pub returns-in-Some-clause-right : goal.returns-in-Some-clause-right
returns-in-Some-clause-right c = λ known says.
    let names = c.args.names.now in
    let found = c.in-Some.ensures.lookup in
    unsorted (map name_in names) known c.in-Some.name.now.now c.in-File.refused.fault (record {
      index = c.in-File.refused.index;
      named = slice_get-map name_in names c.in-File.refused.index
          ∙ ap (option_map name_in)
          (slice_get_read names (length names) c.in-File.refused.index c.in-Some.name.now refl
          found.3.0 found.1);
      first = λ all are. subst (IsBillFault all) c.in-File.is (says all are);
    })
