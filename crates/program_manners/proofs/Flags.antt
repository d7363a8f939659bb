-- Flags of a command line: given by the text `true`, and by nothing else.
use Rattle.std.proofs.Common.{◌≡◌, Bool, true, false, Option, None, Some, List, ℕ, refl, sym, ap}
use Rattle.std.proofs.Common.{codes}
use Rattle.clap.specs.Matches.{ReadsOne}
use Rattle.std.proofs.lemmas.Slice.Eq.{bytes_eq-Decides}
use Rattle.std.specs.{Option.option_map_or, Prelude.unwrap_or, Str.bytes_eq, Str.Parse.ParsesBool}

-- a text that says that a flag is given
abbrev pub is_true_text : List ℕ → Bool
is_true_text text = bytes_eq text (codes "true")

-- a text that reads as no flag is not `true`
not_true : (t : List ℕ) (b : Bool) → is_true_text t ≡ b → (t ≡ codes "true" → ⊥)
    → false ≡ is_true_text t
not_true t true is differs = absurd (differs ((bytes_eq-Decides t (codes "true")).0 is))
not_true t false is differs = sym is

given_by : (E : Type 0) (t : List ℕ) (r : Option Bool) → ReadsOne {T = Bool} {E = E} ParsesBool t r
    → unwrap_or r false ≡ is_true_text t
given_by E t (Some true) reads = sym (ap is_true_text reads)
given_by E t (Some false) reads = sym (ap is_true_text reads)
given_by E t None reads = not_true t (is_true_text t) refl reads.1.0

-- a flag is given if its one text says so
pub flag : (E : Type 0) (o : Option (List ℕ)) (r : Option Bool) → (o ≡ None → r ≡ None)
    → ((t : List ℕ) → o ≡ Some t → ReadsOne {T = Bool} {E = E} ParsesBool t r)
    → unwrap_or r false ≡ option_map_or is_true_text o false
flag E None r none some = ap (λ x. unwrap_or x false) (none refl)
flag E (Some t) r none some = given_by E t r (some t refl)
