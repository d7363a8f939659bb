-- What holds of each element of a list holds of its parts; and one filter after another.
use Rattle.std.proofs.Common.{◌≡◌, ℕ, ◌==◌, Bool, true, false, List, [], ◌∷◌, ◌++◌, length, map}
use Rattle.std.proofs.Common.{All, refl, sym, ap, ◌∙◌, append-nil, ◌+◌, Some, slice_get, take}
use Rattle.std.proofs.lemmas.{Bool.eqb-true, List.nil_from_length, List.take_more}
use Rattle.std.proofs.lemmas.List.Elements.{All-cons, All-head, All-nil, All-tail}
use Rattle.std.proofs.lemmas.Option.{get_or_from_slice_get, slice_get_within}
use Rattle.std.specs.List.{AllByRecursion, filter, AllZip}

-- ---- of two lists, one behind the other
pub All-front : {X : Type 0} (P : X → Type 0) (xs ys : List X) → All P (xs ++ ys) → All P xs
All-front P [] ys all = All-nil P
All-front P (x ∷ xs) ys all =
    All-cons P x xs (All-head P x (xs ++ ys) all) (All-front P xs ys (All-tail P x (xs ++ ys) all))

-- what holds of both lists holds of the second
pub All-back : {X : Type 0} (P : X → Type 0) (xs ys : List X) → All P (xs ++ ys) → All P ys
All-back P [] ys all = all
All-back P (x ∷ xs) ys all = All-back P xs ys (All-tail P x (xs ++ ys) all)

-- what holds of both lists holds of each
pub All-split : {X : Type 0} (P : X → Type 0) (xs ys : List X) → All P (xs ++ ys)
    → All P xs × All P ys
All-split P xs ys all = (All-front P xs ys all, All-back P xs ys all)

-- what holds of what a function gives of each element
pub All-unmap : {X Y : Type 0} (P : Y → Type 0) (f : X → Y) (xs : List X) → All P (map f xs)
    → All (λ x. P (f x)) xs
All-unmap P f [] all = All-nil (λ x. P (f x))
All-unmap P f (x ∷ xs) all =
    All-cons (λ x. P (f x)) x xs (All-head P (f x) (map f xs) all)
    (All-unmap P f xs (All-tail P (f x) (map f xs) all))

-- lists that are related place by place, joined
pub AllZip-append : {A B : Type 0} (R : A → B → Type 0) (xs : List A) (ys : List B) (us : List A)
    (vs : List B) → AllZip R xs ys → AllZip R us vs → AllZip R (xs ++ us) (ys ++ vs)
AllZip-append R [] [] us vs one other = other
AllZip-append R [] (y ∷ ys) us vs one other = absurd one
AllZip-append R (x ∷ xs) [] us vs one other = absurd one
AllZip-append R (x ∷ xs) (y ∷ ys) us vs one other =
    (one.0, AllZip-append R xs ys us vs one.1 other)

-- ---- the same of `AllByRecursion`, which clauses of std name
pub each-append : {X : Type 0} (P : X → Type 0) (xs ys : List X) → AllByRecursion P xs
    → AllByRecursion P ys → AllByRecursion P (xs ++ ys)
each-append P [] ys front back = back
each-append P (x ∷ xs) ys front back = (front.0, each-append P xs ys front.1 back)

pub each-front : {X : Type 0} (P : X → Type 0) (xs ys : List X) → AllByRecursion P (xs ++ ys)
    → AllByRecursion P xs
each-front P [] ys each = tt
each-front P (x ∷ xs) ys each = (each.0, each-front P xs ys each.1)

-- what holds of both lists holds of the second
pub each-back : {X : Type 0} (P : X → Type 0) (xs ys : List X) → AllByRecursion P (xs ++ ys)
    → AllByRecursion P ys
each-back P [] ys each = each
each-back P (x ∷ xs) ys each = each-back P xs ys each.1

-- what holds of each element gives what follows from it
pub each-weaker : {X : Type 0} (P Q : X → Type 0) (xs : List X) → ((x : X) → P x → Q x)
    → AllByRecursion P xs → AllByRecursion Q xs
each-weaker P Q [] weaker each = tt
each-weaker P Q (x ∷ xs) weaker each = (weaker x each.0, each-weaker P Q xs weaker each.1)

-- ---- a list that is gone over
-- all is done if nothing is left
pub all_done : {X : Type 0} (done left all : List X) → done ++ left ≡ all
    → (length left == 0) ≡ true → done ≡ all
all_done done left all is none =
    sym (append-nil done)
    ∙ ap (λ more. done ++ more) (sym (nil_from_length left (eqb-true (length left) 0 none)))
    ∙ is

-- the elements before a place, and the one there
pub take_next : {X : Type 0} (xs : List X) (i : ℕ) (x : X) → slice_get xs i ≡ Some x
    → take i xs ++ x ∷ [] ≡ take (i + 1) xs
take_next {X = X} xs i x at =
    ap (λ (y : X). take i xs ++ y ∷ []) (sym (get_or_from_slice_get xs i x x at))
    ∙ sym (take_more xs i x (slice_get_within xs i x at))

-- two tests keep the same elements in either order
pub filter-filter : {X : Type 0} (p q : X → Bool) (xs : List X)
    → filter p (filter q xs) ≡ filter q (filter p xs)
filter-filter p q [] = refl
filter-filter p q (x ∷ xs) = by_tests (p x) (q x) refl refl (filter-filter p q xs)
  where
    by_tests : (a b : Bool) → p x ≡ a → q x ≡ b → filter p (filter q xs) ≡ filter q (filter p xs)
        → filter p (filter q (x ∷ xs)) ≡ filter q (filter p (x ∷ xs))
    by_tests true true ea eb rest = rw (ea, eb, ea) (ap (λ zs. x ∷ zs) rest)
    by_tests true false ea eb rest = rw (ea, eb) rest
    by_tests false true ea eb rest = rw (ea, eb, ea) rest
    by_tests false false ea eb rest = rw (ea, eb) rest
