-- What is written after other pieces.
use Rattle.std.proofs.Common.{◌≡◌, ◌∙◌, ◌++◌, [], ℕ, List, ap, append-nil, append_assoc, refl, sym}
use Rattle.world.specs.Run.{Run, with_cut, with_written}
use Rattle.world.specs.{Writes.IsCut, declared.faults.WriteFault.WriteFault}

pub written_none : (r : Run) → r ≡ with_written r []
written_none r = ap (λ t. record r { written = t }) (sym (append-nil r.written))

pub written_more : (r : Run) (a b : List ℕ)
    → with_written (with_written r a) b ≡ with_written r (a ++ b)
written_more r a b = ap (λ t. record r { written = t }) (append_assoc r.written a b)

pub written_on : (r now next : Run) (text piece : List ℕ) → now ≡ with_written r text
    → next ≡ with_written now piece → next ≡ with_written r (text ++ piece)
written_on r now next text piece is more =
    more ∙ ap (λ (x : Run). with_written x piece) is ∙ written_more r text piece

pub cut_on : (r now next : Run) (text piece : List ℕ) (why : WriteFault)
    → now ≡ with_written r text → (cut : IsCut now next piece why)
    → next ≡ with_cut (with_written r (text ++ cut.front)) why
cut_on r now next text piece why is cut =
    cut.prefix ∙ ap (λ (x : Run). with_cut x why)
    (written_on r now (with_written now cut.front) text cut.front is refl)
