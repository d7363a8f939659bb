-- The text of a statement: a line for each entry of the token, its totals, and its last window.
use Rattle.account_rule.specs.declared.reply.Answer.{Answer, TheVariants.Paid}
use Rattle.account_rule.specs.declared.reply.Answer.TheVariants.{Transfer, Capped, Stale, Unknown}
use Rattle.account_rule.specs.declared.window.WindowView.{WindowView}
use Rattle.fare_texts.specs.{Counts.totals_line, Moments.IsMomentText}
use Rattle.hex.specs.Hex.{encode_lower}
use Rattle.histories.specs.Sums.{sums_of}
use Rattle.histories.specs.declared.{entry.Entry.Entry, statement.Statement.Statement}
use Rattle.std.specs.{Fmt.decimal, Prelude.◌≡◌}
use Rattle.std.specs.Prelude.{ℕ, List, [], ◌∷◌, ◌++◌, Option, Some, None, codes, slice_index_or}
use Rattle.tap_views.specs.{Token.bytes_of, declared.token.Token.Token}
use Rattle.tariffs.specs.Fares.{Fares, mode_at}

-- the word of an answer
abbrev pub answer_text : Answer → List ℕ
answer_text Paid = codes "paid"
answer_text Transfer = codes "transfer"
answer_text Capped = codes "capped"
answer_text Stale = codes "stale"
answer_text Unknown = codes "unknown"

-- the name of a mode by its place, or `-` for none
abbrev pub name_of : List (List ℕ) → Option ℕ → List ℕ
name_of names None = codes "-"
name_of names (Some position) = slice_index_or names position []

-- the name of a validator's mode at a moment, or `-` if the table does not know the validator
abbrev pub mode_text : Fares → ℕ → ℕ → List ℕ
mode_text fares moment validator =
    name_of fares.meaning.modes (mode_at fares moment validator)

-- `statement 000000000000000000000000000000a1`
unfoldable pub statement_head : Token → List ℕ
statement_head token = codes "statement " ++ (encode_lower (bytes_of token) ++ codes "\n")

-- ` subway 1000 paid 300`: what a line has of the entry after its moment
unfoldable pub entry_words : Fares → Entry → List ℕ
entry_words fares entry =
    codes " " ++ (mode_text fares entry.moment entry.validator ++ (codes " "
    ++ (decimal entry.validator ++ (codes " " ++ (answer_text entry.answer
    ++ (codes " " ++ decimal entry.cents))))))

-- `2024-03-08T17:00:00.000Z subway 1000 paid 300`
pub record IsEntryLine (fares : Fares) (entry : Entry) (line : List ℕ) : Type 0 where
  pub moment : List ℕ
  pub is : IsMomentText entry.moment moment
  pub shown : line ≡ moment ++ (entry_words fares entry ++ codes "\n")

-- a line for each entry, in order
abbrev pub AreEntryLines : Fares → List Entry → List ℕ → Type 0
AreEntryLines fares [] text = text ≡ []
AreEntryLines fares (entry ∷ entries) text =
    (line : List ℕ) × (rest : List ℕ) × IsEntryLine fares entry line
    × AreEntryLines fares entries rest
    × (text ≡ line ++ rest)

-- ` paid 1 cents 300`: what a line has of the window after its end
unfoldable pub window_words : WindowView → List ℕ
window_words window =
    codes " paid " ++ (decimal window.paid ++ (codes " cents " ++ decimal window.cents))

-- `window 2024-03-08T17:00:00.000Z 2024-03-15T17:00:00.000Z paid 1 cents 300`
pub record IsLineOf (window : WindowView) (line : List ℕ) : Type 0 where
  pub start : List ℕ
  pub starts : IsMomentText window.start start
  pub until : List ℕ
  pub ends : IsMomentText window.until until
  pub shown : line ≡ codes "window " ++ (start ++ (codes " "
      ++ (until ++ (window_words window ++ codes "\n"))))

-- the line of the last window, or `window none`
abbrev pub IsWindowLine : Option WindowView → List ℕ → Type 0
IsWindowLine None line = line ≡ codes "window none\n"
IsWindowLine (Some window) line = IsLineOf window line

-- the text of a statement: its head, a line for each entry, the totals, and the last window
pub record IsStatementText (fares : Fares) (statement : Statement) (text : List ℕ) : Type 0 where
  pub lines : List ℕ
  pub of_entries : AreEntryLines fares statement.lines lines
  pub window : List ℕ
  pub of_window : IsWindowLine statement.window window
  pub whole : text ≡ statement_head statement.token
      ++ (lines ++ (totals_line (sums_of statement.totals) ++ window))
