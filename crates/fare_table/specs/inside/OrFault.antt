-- OrFault: what private functions alone cite.
use Rattle.fare_table.specs.declared.fault.TableFault.{TableFault, TheVariants.NoMemory}
use Rattle.std.specs.Prelude.{◌≡◌, ◌≢◌, Result, Ok, Err, MatchResult}

-- the result, with its value seen through f
abbrev pub seen_through : {A B : Type 0} → (A → B) → Result A TableFault → Result B TableFault
seen_through f (Ok x) = Ok (f x)
seen_through f (Err e) = Err e

-- the result, seen through f, is the outcome, unless an allocation failed
abbrev pub Answers : {A B : Type 0} → (A → B) → Result A TableFault → Result B TableFault → Type 0
Answers f r outcome = MatchResult r (λ a. outcome ≡ Ok (f a)) (λ e. e ≢ NoMemory → outcome ≡ Err e)
