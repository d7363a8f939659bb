-- What holds by a choice, by what was chosen.
use Rattle.std.proofs.Common.{◌≡◌, Bool, true, false, Option, Some}
use Rattle.std.specs.Prelude.{MatchBool, MatchOption}

pub if_true : (A B : Type 0) {b : Bool} → b ≡ true → A → MatchBool b A B
if_true A B is a = rw is a

pub if_false : (A B : Type 0) {b : Bool} → b ≡ false → B → MatchBool b A B
if_false A B is b = rw is b

pub if_some : {X : Type 0} (A : Type 0) (B : X → Type 0) {o : Option X} (x : X) → o ≡ Some x → B x
    → MatchOption o A B
if_some A B x is b = rw is b
