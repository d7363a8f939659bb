-- What holds of bytes if they are known.
use Rattle.std.specs.Prelude.{◌≡◌, Option, None, Some, IfSome, MatchOption, true, false}
use Rattle.std.specs.Option.{is_some}

-- each fact of the first kind gives one of the second
pub known_map : {A : Type 0} (P Q : A → Type 0) (known : Option A) → ((a : A) → P a → Q a)
    → IfSome known P → IfSome known Q
known_map P Q None f given = tt
known_map P Q (Some a) f given = f a given

-- what holds in any case
pub known_all : {A : Type 0} (Q : A → Type 0) (known : Option A) → ((a : A) → Q a)
    → IfSome known Q
known_all Q None f = tt
known_all Q (Some a) f = f a

-- two facts give a third
pub known_map2 : {A : Type 0} (P Q R : A → Type 0) (known : Option A)
    → ((a : A) → P a → Q a → R a) → IfSome known P → IfSome known Q → IfSome known R
known_map2 P Q R None f one two = tt
known_map2 P Q R (Some a) f one two = f a one two

-- what holds if there is no value
pub at_none : {A : Type 0} (P : Type 0) (Q : A → Type 0) (answer : Option A)
    → is_some answer ≡ false → MatchOption answer P Q → P
at_none P Q None none is = is
at_none P Q (Some a) none is = absurd (let h : true ≡ false = none in cc)
