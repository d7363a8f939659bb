-- The book on its way out of the slot and back.
use Rattle.std.proofs.Common.{◌≡◌, ℕ, ◌+◌, ◌*◌, ◌^◌, ◌<◌, List, [], ◌∷◌, sym, ap, ◌∙◌, subst}
use Rattle.std.proofs.Common.{Option, Some, None}
use Rattle.atomic_table.specs.Table.{Allows, rest}
use Rattle.shared_books.proofs.TurnSteps.{gives_turn}
use Rattle.shared_books.specs.{Turns.Boxed, Turns.IsTurn, declared.turns.rule.Opening.Opening}
use Rattle.shared_books.specs.inside.{SeatStates.BringsVisit, Steps.Seat, Steps.given_back}

abbrev Slots : Type 0
Slots = List (ℕ × Option Boxed)

pub first_again : (xs ys : Slots) (x : ℕ × Option Boxed) → xs ≡ x ∷ ys → xs ≡ x ∷ rest xs
first_again xs ys x e = e ∙ ap (λ (zs : Slots). x ∷ zs) (sym (ap rest e))

abbrev held_first : Slots → Option Boxed
held_first [] = None
held_first (x ∷ xs) = x.1

-- the slot is empty while the turn is held
pub slot_empty : (xs : Slots) (out : Option Boxed) → xs ≡ (0, out) ∷ rest xs → xs ≡ (0, None) ∷ []
    → out ≡ None
slot_empty xs out e empty = sym (ap held_first e) ∙ ap held_first empty

-- and goes back with a visit
pub store_allowed : (k : Opening) (slots id : ℕ) (me now : Seat) (number : ℕ) (book : Boxed)
    → BringsVisit me number book.value → now ≡ (me.0, (0, Some book) ∷ rest me.1)
    → Allows (IsTurn k) slots id now 0 (λ _. 2 * number + 2) (λ _ after. after ≡ given_back now)
store_allowed k slots id me now number book b e =
    let is : now ≡ (me.0, (0, Some book) ∷ []) =
    e ∙ ap (λ (xs : Slots). (me.0, (0, Some book) ∷ xs)) (ap rest b.carries) in
    subst (λ (z : Seat). Allows (IsTurn k) slots id z 0 (λ _. 2 * number + 2)
    (λ _ after. after ≡ given_back z)) (sym is)
    (gives_turn k slots id me.0 book b.visit (2 * number + 2) b.unjoined b.turn
    (ap (λ n. 2 * n + 2) b.number_is) (subst (λ n. n < 2 ^ 62) b.number_is b.few) b.book_is b.legal)
