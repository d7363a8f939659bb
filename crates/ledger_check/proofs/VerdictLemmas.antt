-- What follows from a true verdict.
use Rattle.std.proofs.Common.{◌≡◌, ℕ, true, false, List, [], ◌∷◌, ◌++◌, refl, sym, subst, ◌∙◌}
use Rattle.std.proofs.Common.{⊎_elim}
use Rattle.ledger_check.proofs.EntryLists.{next-front}
use Rattle.ledger_check.specs.{Ledger.AreNext, Ledger.IsLedger, Lines.lines_of}
use Rattle.ledger_check.specs.Verdicts.{IsFirstWrong, IsHeadless, VerdictsDecide}
use Rattle.ledger_check.specs.declared.checker.Verdict.TheVariants.{Legal, Wants, NoLine}
use Rattle.tariffs.specs.Fares.{Fares}

pub tail_same : (a b : List ℕ) (xs ys : List (List ℕ)) → a ∷ xs ≡ b ∷ ys → xs ≡ ys
tail_same a b xs ys is = cc

-- a text whose first wrong line is known is no ledger
wrong_refutes : (fares : Fares) (text : List ℕ) (number : ℕ)
    → IsFirstWrong fares (lines_of text) number → IsLedger fares text → ⊥
wrong_refutes fares text number first ledger =
    let others = ledger.1 in
    let same : others.lines ≡ first.before ++ first.line ∷ first.after =
    tail_same _ _ _ _ (sym others.split ∙ first.split) in
    let front = next-front fares ledger.0 first.before first.line first.after
    (subst (λ (ls : List (List ℕ)). AreNext fares [] ledger.0 ls) same others.are) in
    first.wrong front.0 front.1

headless_refutes : (fares : Fares) (text : List ℕ) → IsHeadless (lines_of text)
    → IsLedger fares text → ⊥
headless_refutes fares text headless ledger = headless ledger.1.lines ledger.1.split

pub decide : VerdictsDecide
decide fares text (Legal number early) is =
    (λ _. (is.entries, record { lines = is.others; split = is.split; are = is.are }), λ _. refl)
decide fares text (Wants number wanted) is =
    (λ h. absurd (false_true h), λ ledger. absurd (wrong_refutes fares text number is.first ledger))
  where
    false_true : false ≡ true → ⊥
    false_true h = cc
decide fares text (NoLine number) is = (
  λ h. absurd (false_true h),
  λ ledger.
      absurd (⊎_elim
      (λ (head : (number ≡ 1) × IsHeadless (lines_of text)). headless_refutes fares text head.1
      ledger)
      (λ (first : IsFirstWrong fares (lines_of text) number). wrong_refutes fares text number first
      ledger)
      is),
)
  where
    false_true : false ≡ true → ⊥
    false_true h = cc
