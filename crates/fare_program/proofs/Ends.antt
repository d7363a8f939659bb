-- How the writing of a text ends.
use Rattle.std.proofs.Common.{◌≡◌, [], ℕ, List, Bool, Option, Result, Ok, Err, refl, subst}
use Rattle.fare_program.specs.declared.fault.Fault.{Fault, TheVariants.Late, TheVariants.Write}
use Rattle.fare_program.specs.inside.Ends.{Gives, GivesIf, IsLate, Stops}
use Rattle.fare_program.specs.inside.Fault.{ended_as, printed_as}
use Rattle.fare_texts.proofs.Beginnings.{begins_after}
use Rattle.fare_texts.specs.{PrintFaults.UnchangedUnlessWrite, WrittenOut.Begins}
use Rattle.fare_texts.specs.declared.print_fault.PrintFault.{PrintFault}
use Rattle.std.proofs.KnownBytes.{Appends-kept, Appends-nil, Appends-trans, Keeps-refl, Keeps-trans}
use Rattle.std.specs.Io.KnownBytes.{Appends, Keeps}
use Rattle.std.specs.Prelude.{◌≢◌, IfErr, OnOk}
use Rattle.fare_texts.specs.declared.print_fault.PrintFault.TheVariants as print

module _ (Right : List ℕ → Type 0) (out out' : Option (List ℕ)) where
  -- what a fault left, by what a write that failed left
  pub stopped : (fault : Fault) → (fault ≢ Write → (IsLate fault → ⊥) → Keeps out out')
      → (fault ≡ Write → (text : List ℕ) × Right text × Begins out out' text)
      → Stops Right out out' fault
  stopped Write kept started = started refl
  stopped (Late why) kept started = tt
  stopped _ kept started = kept (λ is. cc) (λ late. late)

-- so it is of a text that was printed
pub printed : {V : Type 0} (contents : V → Option (List ℕ)) (old new : V) (Right : List ℕ → Type 0)
    (fault : PrintFault) → UnchangedUnlessWrite fault (new ≡ old)
    → (fault ≡ print.Write → (text : List ℕ) × Right text × Begins (contents old) (contents new) text)
    → Stops Right (contents old) (contents new) (printed_as fault)
printed contents old new Right print.Write same started = started refl
printed contents old new Right print.NoMemory same started = rw same (Keeps-refl (contents old))

-- what is right so is right in another way
pub stops_by : (A B : List ℕ → Type 0) (out out' : Option (List ℕ)) (fault : Fault)
    → ((text : List ℕ) → A text → B text) → Stops A out out' fault → Stops B out out' fault
stops_by A B out out' Write same (text, right, started) = (text, same text right, started)
stops_by A B out out' (Late why) same stops = tt
stops_by A B out out' _ same stops = stops

-- also where less is given
pub gives_by : (Given Given' : Type 0) (A B : List ℕ → Bool → Type 0) (out out' : Option (List ℕ))
    (r : Result Bool Fault) → (Given' → Given)
    → ((text : List ℕ) (success : Bool) → A text success → B text success)
    → GivesIf Given A out out' r → GivesIf Given' B out out' r
gives_by Given Given' A B out out' (Ok success) given same (text, right, written) =
    (text, same text success right, written)
gives_by Given Given' A B out out' (Err fault) given same stops =
    stops_by (λ text. Given → (success : Bool) × A text success)
    (λ text. Given' → (success : Bool) × B text success) out out' fault
    (λ text right more. let it = right (given more) in (it.0, same text it.0 it.1)) stops

-- a text that was printed, by what is known of each end of it
pub gives_printed : {T V : Type 0} (contents : V → Option (List ℕ)) (old new : V)
    (A : List ℕ → Type 0) (r : Result T PrintFault) (success : Bool)
    → OnOk r ((text : List ℕ) × A text × Appends (contents old) (contents new) text)
    → IfErr r (λ fault. fault ≡ print.Write → (text : List ℕ) × A text
    × Begins (contents old) (contents new) text)
    → IfErr r (λ fault. UnchangedUnlessWrite fault (new ≡ old))
    → Gives (λ text s. (s ≡ success) × A text) (contents old) (contents new) (ended_as r success)
gives_printed contents old new A (Ok done) success (text, right, written) started same =
    (text, (refl, right), written)
gives_printed contents old new A (Err print.Write) success ok started same =
    let (text, right, front) = started refl in (text, (λ given. (success, (refl, right))), front)
gives_printed contents old new A (Err print.NoMemory) success ok started same =
    rw same (Keeps-refl (contents old))

-- nothing was written before a fault that is none of a write
pub unwritten : (Right : List ℕ → Type 0) (out : Option (List ℕ)) (fault : Fault) → fault ≢ Write
    → Stops Right out out fault
unwritten Right out Write other = absurd (other refl)
unwritten Right out (Late why) other = tt
unwritten Right out _ other = Keeps-refl out

-- what a write that failed left
pub started_of : (A : List ℕ → Type 0) (out out' : Option (List ℕ)) (fault : Fault)
    → fault ≡ Write → Stops A out out' fault
    → (text : List ℕ) × A text × Begins out out' text
started_of A out out' fault is stops = subst (λ (f : Fault). Stops A out out' f) is stops

-- so it is where nothing was written before
pub gives_kept : (A : List ℕ → Bool → Type 0) (out mid out' : Option (List ℕ))
    (r : Result Bool Fault) → Keeps out mid → Gives A mid out' r → Gives A out out' r
gives_kept A out mid out' (Ok success) kept (text, right, written) =
    let none = Appends-kept out out mid [] (Appends-nil out) kept in
    (text, right, Appends-trans out mid out' [] text none written)
gives_kept A out mid out' (Err Write) kept (text, right, started) =
    let none = Appends-kept out out mid [] (Appends-nil out) kept in
    (text, right, begins_after out mid out' [] text none started)
gives_kept A out mid out' (Err (Late why)) kept stops = tt
gives_kept A out mid out' (Err _) kept stops = Keeps-trans out mid out' kept stops
