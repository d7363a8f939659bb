-- Tests and choices in another order, and what is said of an `Option` or a `Result` by cases.
use Rattle.std.proofs.Common.{◌≡◌, Bool, true, false, cond, ◌||◌, Option, None, Result, Ok, Err}
use Rattle.std.proofs.{Common.refl, Common.sym, Common.subst, lemmas.Bool.false≢true}
use Rattle.std.specs.Prelude.{IfErr, IsErrAnd, MatchOption, OnErr, OnOk}

-- of two tests the order is free
pub or_swap : (a b c : Bool) → (a || (b || c)) ≡ (b || (a || c))
or_swap true true c = refl
or_swap true false c = refl
or_swap false b c = refl

-- of two choices that exclude each other the order is free
pub cond_swap : {A : Type 0} (a b : Bool) (x y z : A) → (a ≡ true → b ≡ false)
    → cond a x (cond b y z) ≡ cond b y (cond a x z)
cond_swap true true x y z apart = absurd (false≢true (sym (apart refl)))
cond_swap true false x y z apart = refl
cond_swap false b x y z apart = refl

-- what is to be said of nothing, if nothing is returned
pub MatchOption_none : {T : Type 0} (P : Type 0) (Q : T → Type 0) (result : Option T)
    → result ≡ None → P → MatchOption result P Q
MatchOption_none {T} P Q result none holds =
    subst (λ (r : Option T). MatchOption r P Q) (sym none) holds

-- what holds anyway is what is to be said of a value
pub OnOk_any : {T E : Type 0} (r : Result T E) (P : Type 0) → P → OnOk r P
OnOk_any (Ok x) P holds = holds
OnOk_any (Err e) P holds = tt

-- what holds anyway is what is to be said of an error
pub OnErr_any : {T E : Type 0} (r : Result T E) (P : Type 0) → P → OnErr r P
OnErr_any (Ok x) P holds = tt
OnErr_any (Err e) P holds = holds

-- what is to be said of the error that was returned
pub IfErr_handed_on : {T E : Type 0} (r : Result T E) (fault : E) (P : E → Type 0)
    → IsErrAnd r (λ e. e ≡ fault) → P fault → IfErr r P
IfErr_handed_on (Ok x) fault P is holds = tt
IfErr_handed_on (Err e) fault P is holds = subst P (sym is) holds
