-- How lines of a ledger end.
use Rattle.std.proofs.Common.{◌≡◌, ◌≢◌, ◌≤◌, ℕ, List, [], ◌∷◌, length, codes, refl, arith}
use Rattle.fare_texts.specs.LedgerLines.{head_text}
use Rattle.ledger_check.specs.Lines.{Lacks}
use Rattle.ledger_check.proofs.LineLemmas.{lacks-last}

pub empty_list : (text : List ℕ) → length text ≤ 0 → text ≡ []
empty_list [] none = refl
empty_list (b ∷ text) none = absurd (omega arith)

-- a line without a line feed is not the header line
pub head_ends : (line : List ℕ) → Lacks 10 line → line ≢ head_text
head_ends line lacks is =
    lacks-last 10
    (codes
    "token,line,moment,validator,mode,answer,cents,window_start,window_end,ride,reason,points_at")
    line is lacks
