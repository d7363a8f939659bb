use Rattle.std.proofs.Common.{◌≡◌, ◌*◌, [], ◌∷◌, ◌++◌, List, Option, Some, false, sym, ap, ◌∙◌}
use Rattle.std.proofs.Common.{subst, refl}
use Rattle.atomic_table.specs.Table.{opening}
use Rattle.shared_books.proofs.TurnEnds.{opens}
use Rattle.shared_books.specs.{Claims.all_claims, PassStates.pass_state, Turns.Boxed, Turns.IsTurn}
use Rattle.shared_books.specs.declared.turns.rule.Opening.{Opening}
use Rattle.shared_books.proofs.turns.SharedBook.open.Goals as goal

pub new-requires-2 : goal.new-requires-2
new-requires-2 c =
    let o : Opening = record { first = c.args.first; book = c.of.result } in
    let slots : c.push.new.self.items ≡ Some c.in_ok-boxed.boxed ∷ [] =
    c.in_ok-push.ensures.items
    ∙ ap (λ (xs : List (Option Boxed)). xs ++ Some c.in_ok-boxed.boxed ∷ [])
    c.new-slots.ensures.items in
    subst (λ (xs : List (Option Boxed)). IsTurn o
    (opening (2 * c.args.first ∷ []) xs (pass_state o all_claims false [] []))) (sym slots)
    (opens c.args.first o c.args.book c.in_ok-boxed.boxed c.in_ok-boxed.ensures.ok refl c.of.ensures
    c.requires.empty c.len.ensures.legal c.requires.first)
