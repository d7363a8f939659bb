-- What a check finds of a ledger's text.
use Rattle.fare_texts.specs.LedgerLines.{head_text}
use Rattle.histories.specs.declared.entry.Entry.{Entry}
use Rattle.ledger_check.specs.Ledger.{AreNext, IsLedger, IsNext}
use Rattle.ledger_check.specs.{Lines.lines_of, Orders.early_line, Orders.tap_of_entry}
use Rattle.ledger_check.specs.declared.checker.Verdict.{Verdict}
use Rattle.ledger_check.specs.declared.checker.Verdict.TheVariants.{Legal, Wants, NoLine}
use Rattle.std.specs.Prelude.{◌≡◌, ◌↔◌, ℕ, ◌+◌, Bool, true, false, List, [], ◌∷◌, ◌++◌, length}
use Rattle.std.specs.Prelude.{Option, None, IsTrue, map, string_bytes, ◌⊎◌}
use Rattle.tariffs.specs.Fares.{Fares}

-- no ledger has this line after these
abbrev pub IsWrongAfter : Fares → List (List ℕ) → List ℕ → Type 0
IsWrongAfter fares lines line =
    (others : List Entry) → AreNext fares [] others (lines ++ line ∷ []) → ⊥

-- a ledger has these lines, and then this one
abbrev pub IsWanted : Fares → List (List ℕ) → List ℕ → Type 0
IsWanted fares lines line =
    (entries : List Entry) × (entry : Entry) × AreNext fares [] entries lines
    × IsNext fares entries entry line

-- the lines begin with those of a prefix of a ledger, and the next one, which has this number,
-- is in no ledger there
pub record IsFirstWrong (fares : Fares) (lines : List (List ℕ)) (number : ℕ) : Type 0 where
  pub before : List (List ℕ)
  pub line : List ℕ
  pub after : List (List ℕ)
  pub split : lines ≡ head_text ∷ (before ++ line ∷ after)
  pub entries : List Entry
  pub are : AreNext fares [] entries before
  pub counted : number ≡ length entries + 2
  pub wrong : IsWrongAfter fares before line

-- the first line is not the header line
abbrev pub IsHeadless : List (List ℕ) → Type 0
IsHeadless lines = (others : List (List ℕ)) → lines ≡ head_text ∷ others → ⊥

-- the lines are a ledger's, of this number of entries, and the first line that is earlier than the
-- line before it has this number, if there is one
pub record IsWholeLedger (fares : Fares) (lines : List (List ℕ)) (number : ℕ) (early : Option ℕ)
    : Type 0 where
  pub others : List (List ℕ)
  pub split : lines ≡ head_text ∷ others
  pub entries : List Entry
  pub are : AreNext fares [] entries others
  pub counted : number ≡ length entries
  pub order : (of : List Entry) → AreNext fares [] of others
      → early ≡ early_line (map tap_of_entry of)

-- the first wrong line, and the line that a ledger can have in its place
pub record IsFirstWanted (fares : Fares) (lines : List (List ℕ)) (number : ℕ) (wanted : List ℕ)
    : Type 0 where
  pub first : IsFirstWrong fares lines number
  pub is : IsWanted fares first.before wanted

-- the verdict is true of the lines
abbrev pub IsTrueOf : Fares → List (List ℕ) → Verdict → Type 0
IsTrueOf fares lines (Legal number early) = IsWholeLedger fares lines number early
IsTrueOf fares lines (Wants number wanted) = IsFirstWanted fares lines number (string_bytes wanted)
IsTrueOf fares lines (NoLine number) =
    ((number ≡ 1) × IsHeadless lines) ⊎ IsFirstWrong fares lines number

-- the verdict is true of the text
abbrev pub IsVerdict : Fares → List ℕ → Verdict → Type 0
IsVerdict fares text verdict = IsTrueOf fares (lines_of text) verdict

-- whether the verdict is that the ledger is legal
abbrev pub is_legal : Verdict → Bool
is_legal (Legal number early) = true
is_legal (Wants number wanted) = false
is_legal (NoLine number) = false

-- the number of the first line of a legal ledger that is earlier than the line before it
abbrev pub early_in : Verdict → Option ℕ
early_in (Legal number early) = early
early_in (Wants number wanted) = None
early_in (NoLine number) = None

-- a true verdict says `legal` exactly if the text is a ledger
abbrev pub VerdictsDecide : Type 0
VerdictsDecide =
    (fares : Fares) (text : List ℕ) (verdict : Verdict) → IsVerdict fares text verdict
    → IsTrue (is_legal verdict) ↔ IsLedger fares text
