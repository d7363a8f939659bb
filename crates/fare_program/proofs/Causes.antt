-- What a fault stops a run by.
use Rattle.std.proofs.Common.{◌≡◌, ◌∷◌, ℕ, List, [], true, Bor, arith, Some}
use Rattle.std.proofs.Common.{nat_eq, length, map, refl}
use Rattle.fare_program.specs.declared.fault.Fault.{Fault}
use Rattle.fare_program.specs.{FilesLoaded.names_to_load, inside.Fault.CanStop, inside.Fault.Shows}
use Rattle.fare_program.specs.inside.Fault.{outside_of}
use Rattle.frame.specs.{Outsides.LeavesFiles, declared.outside.Outside.Outside}
use Rattle.frame.specs.declared.outside.Outside.TheVariants.{NoMemory, Unmade, Unread, Untraced}
use Rattle.frame.specs.declared.outside.Outside.TheVariants.{Unwritten, Wrong}
use Rattle.std.proofs.lemmas.{Bool.Decides.nat_tests, List.length-map}
use Rattle.std.specs.Prelude.{◌<◌, Contains, None, Option}
use Rattle.world.specs.Run.{Run}

-- without names no file is asked for
pub none_named : (names : List (Bor (List ℕ))) → nat_eq (length names) 0 ≡ true
    → map (λ n. n.now) names ≡ []
none_named [] is = refl
none_named (n ∷ names) is =
    let zero : length (n ∷ names) ≡ 0 = grind (arith, nat_tests) in
    absurd (omega (arith, zero))

pub many_named : (names : List (List ℕ)) → 65535 < length (names_to_load names)
    → 65535 < length names
many_named [] many = absurd (omega (arith, many))
many_named (n ∷ names) many = omega (arith, many, length-map names (λ (x : List ℕ). Some x))

shows_by : (A B C D : Type 0) → (A → B) → (C → D) → (why : Outside) → Shows A C why → Shows B D why
shows_by A B C D more late Wrong is = more is
shows_by A B C D more late Untraced is = late is
shows_by A B C D more late NoMemory is = tt
shows_by A B C D more late (Unread why) is = is
shows_by A B C D more late (Unwritten why) is = is
shows_by A B C D more late (Unmade why is_partial) is = is

-- the same, where more is wrong
pub can_stop : (A B C D : Type 0) → (A → B) → (C → D) → (fault : Fault) → CanStop A C fault
    → CanStop B D fault
can_stop A B C D more late fault is = shows_by A B C D more late (outside_of None fault) is

module _ (A B : Type 0) (names : List (Option (List ℕ))) (before after : Run) where
  -- what stops a run that does nothing else leaves this
  pub leaves_same : (late : Type 0) → (why : Outside) → Shows A late why → (A → B) → after ≡ before
      → LeavesFiles B names why before after
  leaves_same late Wrong is more same = (more is, same)
  leaves_same late Untraced is more same = same
  leaves_same late NoMemory is more same = same
  leaves_same late (Unread why) is more same = absurd is
  leaves_same late (Unwritten why) is more same = absurd is
  leaves_same late (Unmade why is_partial) is more same = absurd is

  -- the same, where more is wrong, or more files are named
  pub leaves_by : (others : List (Option (List ℕ))) → (A → B)
      → ((name : Option (List ℕ)) → Contains names name → Contains others name) → (why : Outside)
      → LeavesFiles A names why before after → LeavesFiles B others why before after
  leaves_by others more named (Unread why) (name, within, left) = (name, named name within, left)
  leaves_by others more named (Unwritten why) left = left
  leaves_by others more named (Unmade why is_partial) left = left
  leaves_by others more named Wrong left = (more left.0, left.1)
  leaves_by others more named Untraced left = left
  leaves_by others more named NoMemory left = left

-- a fault that can stop a run that does nothing is late only where that may be
pub late_of : (A C : Type 0) (why : Outside) → Shows A C why → why ≡ Untraced → C
late_of A C Untraced is late = is
late_of A C Wrong is late = absurd (cc)
late_of A C NoMemory is late = absurd (cc)
late_of A C (Unread why) is late = absurd is
late_of A C (Unwritten why) is late = absurd is
late_of A C (Unmade why is_partial) is late = absurd is
