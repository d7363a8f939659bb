use Rattle.std.proofs.lemmas.Result.{IfOk-weaker, IfErr-weaker}
use Rattle.shared_books.proofs.Passing.{out_later, full_later}
use Rattle.shared_books.proofs.turns.SharedBook.take.Goals as goal

pub returns-in-None-clause-taken : goal.returns-in-None-clause-taken
returns-in-None-clause-taken g c =
    IfOk-weaker _ _ _ (λ _ taken. out_later _ _ _ _ _ c.in-None.ensures.lost taken)
    c.wait_and_take.ensures.taken

pub returns-in-None-clause-full : goal.returns-in-None-clause-full
returns-in-None-clause-full g c =
    IfErr-weaker _ _ _ (λ _ full. full_later _ _ _ c.in-None.ensures.lost full)
    c.wait_and_take.ensures.full
