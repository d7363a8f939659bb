-- Bytes that are known stay known.
use Rattle.std.proofs.Common.{◌≡◌, ◌≢◌, ℕ, List, Option, None, Some, Result, Ok, Err, refl}
use Rattle.std.specs.Io.KnownBytes.{Appends, Keeps, WriteAppends}

pub known_kept : (a b : Option (List ℕ)) → a ≢ None → Keeps a b → b ≢ None
known_kept None b some is = absurd (some refl)
known_kept (Some x) None some is = absurd is
known_kept (Some x) (Some y) some is = λ none. cc

grown : (a b : Option (List ℕ)) (bytes : List ℕ) → a ≢ None → Appends a b bytes → b ≢ None
grown None b bytes some is = absurd (some refl)
grown (Some x) None bytes some is = absurd is
grown (Some x) (Some y) bytes some is = λ none. cc

pub known_after : {E : Type 0} (a b : Option (List ℕ)) (result : Result ℕ E) (bytes : List ℕ)
    → a ≢ None → WriteAppends a b result bytes → b ≢ None
known_after a b (Ok n) bytes some is = grown a b _ some is
known_after a b (Err e) bytes some is = known_kept a b some is

pub is_known : (a : Option (List ℕ)) (bytes : List ℕ) → a ≡ Some bytes → a ≢ None
is_known a bytes is = λ none. cc

pub some_known : (a : Option (List ℕ)) → a ≢ None → (bytes : List ℕ) × (a ≡ Some bytes)
some_known None some = absurd (some refl)
some_known (Some bytes) some = (bytes, refl)
