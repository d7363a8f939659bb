-- What no correction names is charged the same.
use Rattle.std.proofs.Common.{◌≡◌, suc, Bool, true, false, not, cond, List, [], ◌∷◌, filter, refl}
use Rattle.std.proofs.Common.{ap, arith, All, Option, None, Some, inl, inr}
use Rattle.std.proofs.lemmas.List.Elements.{All-cons, All-nil, All-weaker}
use Rattle.ledger_changes.specs.Changes.{IsSameOrListed, Pair, agree, is_changed}
use Rattle.ledger_fields.specs.Rows.{Charge}
use Rattle.ledger_changes.proofs.Keys.{same_charge}

pub same : (before after : Option Charge) → agree before after ≡ true → before ≡ after
same None None e = refl
same None (Some after) e = absurd (let h : false ≡ true = e in cc)
same (Some before) None e = absurd (let h : false ≡ true = e in cc)
same (Some before) (Some after) e =
    ap (λ (charge : Charge). Some charge) (same_charge before after e)

longer : (first : Pair) (changes : List Pair) (pair : Pair) → IsSameOrListed changes pair
    → IsSameOrListed (first ∷ changes) pair
longer first changes pair (inl is) = inl is
longer first changes pair (inr there) =
    inr (suc there.0, omega (arith, there.1), there.2)

pub kept : (pairs : List Pair) → All (IsSameOrListed (filter is_changed pairs)) pairs
kept [] = All-nil (IsSameOrListed [])
kept (pair ∷ pairs) = by_test (agree pair.before pair.after) refl (kept pairs)
  where
    by_test : (b : Bool) → agree pair.before pair.after ≡ b
        → All (IsSameOrListed (filter is_changed pairs)) pairs
        → All (IsSameOrListed (cond (not b) (pair ∷ filter is_changed pairs)
        (filter is_changed pairs))) (pair ∷ pairs)
    by_test true e more =
        All-cons (IsSameOrListed (filter is_changed pairs)) pair pairs
        (inl (same pair.before pair.after e)) more
    by_test false e more =
        All-cons (IsSameOrListed (pair ∷ filter is_changed pairs)) pair pairs
        (inr (0, omega arith, refl))
        (All-weaker (IsSameOrListed (filter is_changed pairs))
        (IsSameOrListed (pair ∷ filter is_changed pairs)) (longer pair (filter is_changed pairs))
        pairs more)
