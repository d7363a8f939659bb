-- What a whole ledger is.
use Rattle.fare_texts.specs.LedgerLines.{IsLedgerLineAfter, head_text}
use Rattle.histories.specs.{Entry.own, History.IsReplied, declared.entry.Entry.Entry}
use Rattle.ledger_check.specs.Lines.{lines_of}
use Rattle.std.specs.Prelude.{◌≡◌, ℕ, ◌+◌, ◌*◌, ◌^◌, ◌<◌, ◌≤◌, List, [], ◌∷◌, ◌++◌, length, All}
use Rattle.tap_views.specs.{Token.Fits, declared.token.Token.Token}
use Rattle.tariffs.specs.Fares.{Fares}

-- a token as one number of 128 bits: tokens rise as these numbers do
abbrev pub token_number : Token → ℕ
token_number token = token.high * 2 ^ 64 + token.low

-- the fields are those of a tap that can be posted
pub record IsPostable (entry : Entry) : Type 0 where
  pub token : Fits entry.token
  pub validator : entry.validator < 2 ^ 32
  pub moment : entry.moment < 4_102_444_800_000

-- the line of an entry of the token, after its earlier entries: its number, and why it is answered
-- so
abbrev pub IsNextLine : Fares → List Entry → Entry → List ℕ → Type 0
IsNextLine fares earlier entry line = IsLedgerLineAfter fares entry.token earlier entry line

-- after the lines of the earlier entries, the ledger can go on with this entry and its line
pub record IsNext (fares : Fares) (earlier : List Entry) (entry : Entry) (line : List ℕ)
    : Type 0 where
  pub postable : IsPostable entry
  -- tokens do not fall
  pub nondecreasing : All (λ before. token_number before.token ≤ token_number entry.token) earlier
  -- its reply is the account rule's for its token's earlier taps
  pub replied : IsReplied fares earlier entry
  pub shown : IsNextLine fares (own entry.token earlier) entry line
  -- a line has at most 255 bytes, and a ledger at most 2^62 entries
  pub short : length line ≤ 255
  pub few : length earlier < 2 ^ 62

-- these are the lines of the entries that follow the earlier ones
abbrev pub AreNext : Fares → List Entry → List Entry → List (List ℕ) → Type 0
AreNext fares earlier [] [] = Unit {0}
AreNext fares earlier [] (line ∷ lines) = ⊥
AreNext fares earlier (entry ∷ entries) [] = ⊥
AreNext fares earlier (entry ∷ entries) (line ∷ lines) =
    IsNext fares earlier entry line × AreNext fares (earlier ++ entry ∷ []) entries lines

-- the lines of the text are the header line and those of the entries
pub record IsLedgerOf (fares : Fares) (entries : List Entry) (text : List ℕ) : Type 0 where
  pub lines : List (List ℕ)
  pub split : lines_of text ≡ head_text ∷ lines
  pub are : AreNext fares [] entries lines

-- the text is, whole, a ledger of legal histories
abbrev pub IsLedger : Fares → List ℕ → Type 0
IsLedger fares text = (entries : List Entry) × IsLedgerOf fares entries text
