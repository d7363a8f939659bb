-- The ledger of a history: a header line, and the lines of each token, by increasing tokens.
use Rattle.fare_texts.specs.LedgerLines.{AreLedgerLines, head_text}
use Rattle.histories.specs.{Entry.own, SumsByKey.tokens, declared.entry.Entry.Entry}
use Rattle.std.specs.Prelude.{◌≡◌, ℕ, List, [], ◌∷◌, ◌++◌, Option, Some, None}
use Rattle.tap_views.specs.declared.token.Token.{Token}
use Rattle.tariffs.specs.Fares.{Fares}

-- whose lines a ledger has: those of the one token that is asked for, or of all tokens of the
-- history, increasing, each once
abbrev pub ledger_tokens : Option Token → List Entry → List Token
ledger_tokens None history = tokens history
ledger_tokens (Some token) history = token ∷ []

-- for each of these tokens, one after another, the lines of its own entries, in history order
abbrev pub AreLinesOfEach : Fares → List Entry → List Token → List ℕ → Type 0
AreLinesOfEach fares history [] text = text ≡ []
AreLinesOfEach fares history (token ∷ others) text =
    (lines : List ℕ) × (rest : List ℕ) × AreLedgerLines fares token (own token history) lines
    × AreLinesOfEach fares history others rest × (text ≡ lines ++ rest)

-- the ledger of a history: the header line once, and then the lines of each token
pub record IsLedgerOver (fares : Fares) (history : List Entry) (only : Option Token)
    (text : List ℕ) : Type 0 where
  pub lines : List ℕ
  pub of_each : AreLinesOfEach fares history (ledger_tokens only history) lines
  pub whole : text ≡ head_text ++ lines
