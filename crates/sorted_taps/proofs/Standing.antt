-- Where a reader is in its file, and its steps.
use Rattle.std.proofs.Common.{◌≡◌, ℕ, ◌+◌, ◌-◌, ◌<◌, ◌≤◌, List, [], ◌∷◌, ◌++◌, length, take, drop}
use Rattle.std.proofs.Common.{refl, sym, ap, subst, ◌∙◌, arith, append-nil, append_assoc, get_or}
use Rattle.std.proofs.Common.{length-append, length-take-le, suc, zero, take_all, take-append-drop}
use Rattle.sorted_taps.proofs.Batches.{file_of, front_append, front_none}
use Rattle.sorted_taps.proofs.Joining.{last_taken, sorted_more, sorted_then}
use Rattle.sorted_taps.specs.{Merged.BeginsNotBefore, Readers.AreRead}
use Rattle.sorted_taps.specs.Readers.{ahead, IsPositionedIn, IsPassed, IsStepFault, IsAfterFault}
use Rattle.sorted_taps.specs.{Readers.IsNextBefore, Reading.AreBatches, Reading.AreTapsBetween}
use Rattle.sorted_taps.specs.Sorted.{IsSortedFile, IsDamagedAt, IsSortedFault}
use Rattle.sorted_taps.specs.declared.fault.SortedFault.{SortedFault, TheVariants.Layout}
use Rattle.sorted_taps.specs.declared.fault.SortedFault.TheVariants.{OutOfOrder, Unread, NoMemory}
use Rattle.sorted_taps.specs.declared.reader.TapReader.{TapReader}
use Rattle.sorted_taps.specs.inside.Steps.{BeginsBefore, IsMovedOn, IsRefilled}
use Rattle.std.proofs.lemmas.List.{length-drop, drop-drop}
use Rattle.std.specs.List.Sorted.{IsSorted}
use Rattle.std.specs.Prelude.{IfSome, None, Option, Some}
use Rattle.tap_parts.specs.Canonical.{tap_cmp}
use Rattle.tap_views.proofs.{ParseLemmas.no_bytes, Reading.no_batch}
use Rattle.tap_views.specs.{Faults.IsFault, Files.IsFileOf}
use Rattle.tap_views.specs.declared.{encoder.TapFields.TapFields, fault.LayoutFault.LayoutFault}

-- what is in memory after a run that was passed
pub read_further : (all : List ℕ) (from : ℕ) (passed run : List TapFields) (old new : TapReader)
    → AreRead all from old.offset passed (ahead old) → IsPassed all old run new
    → AreRead all from new.offset (passed ++ run) (ahead new)
read_further all from passed run old new holds is = record {
  between = subst (λ l. AreTapsBetween all from new.offset l)
      (append_assoc passed (ahead old) is.read ∙ ap (λ l. passed ++ l) is.goes_on
      ∙ sym (append_assoc passed run (ahead new)))
      (front_append (drop from all) (drop old.offset all) (drop new.offset all)
      (passed ++ ahead old) is.read holds.between is.between);
  sorted = sorted_then passed run (ahead new)
      (subst (λ l. IsSorted tap_cmp (passed ++ l)) (sym is.first) holds.sorted) is.sorted;
  end = is.end holds.end;
}

-- a reader that goes on is in its file
pub positioned_further : (all : List ℕ) (from : ℕ) (passed run : List TapFields)
    (old new : TapReader) → IsPositionedIn all from passed old → IsPassed all old run new
    → IsPositionedIn all from (passed ++ run) new
positioned_further all from passed run old new (holds, before) is =
    let long = length-append passed run in
    let after = is.number in
    (read_further all from passed run old new holds is, omega (arith, long, before, after))

pub positioned_on : (from : ℕ) (old new : TapReader) (known : Option (List ℕ))
    (run : List TapFields)
    → IfSome known (λ all. (passed : List TapFields) × IsPositionedIn all from passed old)
    → IfSome known (λ all. IsPassed all old run new)
    → IfSome known (λ all. (passed : List TapFields) × IsPositionedIn all from passed new)
positioned_on from old new None run holds is = tt
positioned_on from old new (Some all) run (passed, holds) is =
    (passed ++ run, positioned_further all from passed run old new holds is)

-- taps up to the file's end are the file's
pub whole_file : (all : List ℕ) (to : ℕ) (taps : List TapFields) → AreTapsBetween all 0 to taps
    → drop to all ≡ [] → IsFileOf all taps
whole_file all to taps between end = record {
  batches = between.batches;
  is_file = file_of all [] between.batches
      (subst (λ l. AreBatches all between.batches l) end between.are) no_bytes;
  read = between.read;
}

-- a reader that came to the end of its file has passed all taps
pub sorted_at_end : (all : List ℕ) (passed : List TapFields) (reader : TapReader)
    → IsPositionedIn all 0 passed reader → ahead reader ≡ [] → IsSortedFile all passed
sorted_at_end all passed reader (holds, number) none = record {
  read = whole_file all reader.offset passed
      (subst (λ l. AreTapsBetween all 0 reader.offset l)
      (ap (λ l. passed ++ l) none ∙ append-nil passed) holds.between) (holds.end none);
  sorted = subst (λ l. IsSorted tap_cmp l)
      (ap (λ l. passed ++ take 1 l) none ∙ append-nil passed) holds.sorted;
}

-- taps in order, and then a layout fault
damaged : (all : List ℕ) (at : ℕ) (taps : List TapFields) (fault : LayoutFault)
    → AreTapsBetween all 0 at taps → IsSorted tap_cmp taps → 0 < length (drop at all)
    → IsFault (drop at all) fault → IsDamagedAt all at fault
damaged all at taps fault between sorted some is =
    let rest = drop at all in
    let left = length-drop at all in
    record {
      batches = between.batches;
      read = record {
        rest = rest;
        is_file = file_of all rest between.batches between.are (no_batch rest fault is);
        is_end = record {
          some_byte = some;
          is_fault = is;
          holds_at = omega (arith, left, some);
        };
      };
      sorted = subst (λ l. IsSorted tap_cmp l) (sym between.read) sorted;
    }

-- the fault of a reader that does not begin is the file's
pub opening_fault : (all : List ℕ) (fault : SortedFault) → IsAfterFault all 0 fault
    → IsSortedFault all fault
opening_fault all (OutOfOrder tap) is = absurd is
opening_fault all (Layout at fault) is =
    damaged all at [] fault is.between (λ k d low high. absurd (omega (arith, high))) is.some
    is.is_fault
opening_fault all Unread is = tt
opening_fault all NoMemory is = tt

-- the fault of a reader that does not go on is the file's
pub step_fault : (all : List ℕ) (passed : List TapFields) (old : TapReader) (fault : SortedFault)
    → IsPositionedIn all 0 passed old → IsStepFault all old fault → IsSortedFault all fault
step_fault all passed old (OutOfOrder number) (holds, before) is =
    let counted = is.counted in
    record {
      to = is.to;
      earlier = passed;
      last = is.tap;
      next = is.next;
      later = is.later;
      between = subst (λ l. AreTapsBetween all 0 is.to l)
          (append_assoc passed (ahead old) is.read ∙ ap (λ l. passed ++ l) is.goes_on)
          (front_append all (drop old.offset all) (drop is.to all) (passed ++ ahead old) is.read
          holds.between is.between);
      sorted = subst (λ l. IsSorted tap_cmp (passed ++ l)) is.stood holds.sorted;
      before = is.before;
      number = omega (arith, before, counted);
    }
step_fault all passed old (Layout at fault) (holds, before) (one, is) =
    damaged all at ((passed ++ ahead old) ++ []) fault
    (front_append all (drop old.offset all) (drop at all) (passed ++ ahead old) [] holds.between
    is.between)
    (subst (λ l. IsSorted tap_cmp l)
    (ap (λ l. passed ++ l) (take_all 1 (ahead old) (omega (arith, one)))
    ∙ sym (append-nil (passed ++ ahead old))) holds.sorted) is.some is.is_fault
step_fault all passed old Unread holds is = tt
step_fault all passed old NoMemory holds is = tt

-- ---- Steps of a reader.
-- to a tap in memory
pub next_moved : (all : List ℕ) (reader : TapReader) (count : ℕ)
    → reader.next + count < length reader.taps.items
    → IsMovedOn all reader count (record reader { next = reader.next + count })
next_moved all reader count more =
    let items = reader.taps.items in
    record {
      read = [];
      between = front_none (drop reader.offset all);
      goes_on = append-nil (ahead reader) ∙ sym (take-append-drop count (ahead reader))
          ∙ ap (λ l. take count (ahead reader) ++ l) (drop-drop count reader.next items);
      end = λ none.
          let zero_left = ap length none in
          let left = length-drop (reader.next + count) items in
          absurd (omega (arith, zero_left, left, more));
      number = refl;
    }

-- to the first tap that was read behind the last one in memory
pub refill_moved : (all : List ℕ) (old new : TapReader) (count : ℕ)
    → length old.taps.items ≤ old.next + count
    → IsRefilled all (record old { next = old.next + count }) new → IsMovedOn all old count new
refill_moved all old new count last is =
    let here : ahead new ≡ new.taps.items = ap (λ n. drop n new.taps.items) is.first in
    let left = length-drop old.next old.taps.items in
    record {
      read = new.taps.items;
      between = is.between;
      goes_on = ap (λ l. l ++ new.taps.items)
          (sym (take_all count (ahead old) (omega (arith, left, last))))
          ∙ ap (λ l. take count (ahead old) ++ l) (sym here);
      end = λ empty. is.end (sym here ∙ empty);
      number = is.number;
    }

first_run : (n : ℕ) (list rest : List TapFields) → 0 < n → n ≤ length list
    → take 1 (take n list ++ rest) ≡ take 1 list
first_run zero list rest some within = absurd (omega (arith, some))
first_run (suc n) [] rest some within = absurd (omega (arith, within))
first_run (suc n) (x ∷ list) rest some within = refl

-- a reader that has passed taps in order, the last of which is in order with the next one
pub run_passed : (all : List ℕ) (old mid : TapReader) (count number : ℕ) → 0 < count
    → count ≤ length (ahead old) → IsSorted tap_cmp (take count (ahead old))
    → IsMovedOn all old count mid
    → ((d : TapFields) → BeginsNotBefore (get_or (ahead old) (count - 1) d) (ahead mid))
    → number ≡ old.passed + count
    → IsPassed all old (take count (ahead old)) (record mid { passed = number })
run_passed all old mid count number some within up is order counted =
    let long = length-take-le count (ahead old) within in
    record {
      read = is.read;
      between = is.between;
      goes_on = is.goes_on;
      first = first_run count (ahead old) (ahead mid) some within;
      sorted = sorted_more (take count (ahead old)) (ahead mid) up (λ d _.
          subst (λ t. BeginsNotBefore t (ahead mid))
          (sym (last_taken count (ahead old) d d some within)) (order d));
      end = λ was. is.end;
      number = omega (arith, counted, long);
    }

-- the next tap is before the one at which the reader stood
pub out_of_order : (all : List ℕ) (old mid : TapReader) (number : ℕ) (tap : TapFields)
    → 0 < length (ahead old) → get_or (ahead old) 0 tap ≡ tap → IsMovedOn all old 1 mid
    → BeginsBefore tap (ahead mid) → number ≡ old.passed + 1 → IsNextBefore all old number
out_of_order all old mid number tap some is_tap is earlier counted =
    by_list (ahead mid) refl earlier
  where
    head : (list : List TapFields) → 0 < length list → get_or list 0 tap ≡ tap
        → take 1 list ≡ tap ∷ []
    head [] some is = absurd (omega (arith, some))
    head (x ∷ list) some is = ap (λ t. t ∷ []) is

    by_list : (list : List TapFields) → ahead mid ≡ list → BeginsBefore tap list
        → IsNextBefore all old number
    by_list [] e before = absurd before
    by_list (next ∷ later) e before =
        let stood = head (ahead old) some is_tap in
        record {
          to = mid.offset;
          tap = tap;
          read = is.read;
          next = next;
          later = later;
          stood = stood;
          between = is.between;
          goes_on = is.goes_on ∙ ap (λ l. l ++ ahead mid) stood ∙ ap (λ l. tap ∷ l) e;
          before = before;
          counted = counted;
        }
