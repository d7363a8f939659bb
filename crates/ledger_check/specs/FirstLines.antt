-- What is reported of the first lines of a text.
use Rattle.ledger_check.specs.FullChecks.{AreTaken, IsFullCheck, TakenLine, lines_from}
use Rattle.ledger_check.specs.{FullChecks.full_check_text, FullChecks.remark_lines, Lines.lines_of}
use Rattle.std.specs.Prelude.{◌≡◌, ℕ, List, ◌++◌}
use Rattle.tariffs.specs.Fares.{Fares}

-- these are the first lines of the text, taken one after another
pub record AreFirstTaken (fares : Fares) (text : List ℕ) (taken : List TakenLine) : Type 0 where
  pub are : AreTaken fares taken
  pub rest : List (List ℕ)
  pub split : lines_of text ≡ lines_from taken ++ rest

-- the remarks on the first lines of a text are a prefix of the text of each of its full checks
abbrev pub FullChecksGoOn : Type 0
FullChecksGoOn = (fares : Fares) (text : List ℕ) (first taken : List TakenLine)
    → AreFirstTaken fares text first → IsFullCheck fares text taken
    → (more : List ℕ) × (full_check_text taken ≡ remark_lines first ++ more)
