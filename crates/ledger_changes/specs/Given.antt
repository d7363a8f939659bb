-- Corrections that are given in pieces: what they have given of two ledgers that are read side by
-- side, and what is left.
use Rattle.ledger_changes.specs.{Changes.Pair, Ledgers.rows_of, Texts.removed_in}
use Rattle.ledger_changes.specs.Tokens.{TokenSum, changes_of_both, corrections_of, last_sums}
use Rattle.ledger_changes.specs.Tokens.{lines_of_changes, sums_line, text_of}
use Rattle.ledger_changes.specs.declared.{changes.Corrections.Corrections, fault.Bill.Bill}
use Rattle.ledger_changes.specs.declared.fault.Bill.TheVariants.{New, Old}
use Rattle.ledger_changes.specs.declared.fault.CorrectionsFault.{CorrectionsFault}
use Rattle.ledger_changes.specs.declared.fault.CorrectionsFault.TheVariants.{Line, Unread, NoMemory}
use Rattle.ledger_changes.specs.declared.fault.WrongLine.{WrongLine}
use Rattle.ledger_changes.specs.declared.ledger_rows.LedgerRows.{LedgerRows}
use Rattle.ledger_changes.specs.inside.{Readings.HasEnded, Readings.rows_at, Views.sum_in}
use Rattle.ledger_fields.specs.Rows.{Row}
use Rattle.recorded_lines.specs.{Texts.CanBe, Texts.IsFresh, Texts.calls_of, Unread.IsUnread}
use Rattle.std.specs.Prelude.{◌≡◌, ◌⊎◌, ◌+◌, ⊤, ℕ, Bool, List, ◌++◌, Option, None, Some, Result}
use Rattle.std.specs.Prelude.{Err, option_map}
use Rattle.world.specs.{Run.Calls, Streams.IsWhole}

-- what a ledger says
abbrev pub Said : Type 0
Said = Result (List Row) (ℕ × WrongLine)

-- What is left of a text, of these corrections, after these open sums and so many removed lines: the
-- rest, and how many lines are removed in all.
abbrev pub text_left : Bool → ℕ → Option TokenSum → List Pair → List ℕ × ℕ
text_left by_token removed last changes = (
  lines_of_changes by_token last changes ++ sums_line (last_sums by_token last changes),
  removed + removed_in changes,
)

abbrev pub after_text : List ℕ → List ℕ × ℕ → List ℕ × ℕ
after_text text rest = (text ++ rest.0, rest.1)

-- The text of the corrections of two ledgers is this one, and after it what is left of both gives. A
-- line that is wrong in what is left is the first wrong one of its ledger.
pub record Walked (by_token : Bool) (text : List ℕ) (removed : ℕ) (last : Option TokenSum)
    (old new old0 new0 : Said) : Type 0 where
  pub rest : option_map (text_of by_token) (changes_of_both old0 new0)
      ≡ option_map (λ changes. after_text text (text_left by_token removed last changes))
      (changes_of_both old new)
  pub wrong_old : (wrong : ℕ × WrongLine) → old ≡ Err wrong → old0 ≡ Err wrong
  pub wrong_new : (wrong : ℕ × WrongLine) → new ≡ Err wrong → new0 ≡ Err wrong

-- the same, of what reads gave of both, whatever follows
abbrev pub IsWalked : Bool → List ℕ → ℕ → Option TokenSum → LedgerRows → LedgerRows → Type 0
IsWalked by_token text removed last old new = (o n : List ℕ) → CanBe (calls_of old.from) o
    → CanBe (calls_of new.from) n
    → Walked by_token text removed last (rows_at old o) (rows_at new n) (rows_of o) (rows_of n)

-- these corrections have given this text
pub record HasGiven (c : Corrections) (by_token : Bool) (text : List ℕ) : Type 0 where
  pub by : c.is_by_token ≡ by_token
  pub of_old : c.old.bill ≡ Old
  pub of_new : c.new.bill ≡ New
  pub ended_old : HasEnded c.old
  pub ended_new : HasEnded c.new
  pub walked : IsWalked by_token text c.tally.removed (sum_in c.tally.last) c.old c.new

-- the calls by which the ledgers are read
abbrev pub old_calls : Corrections → Calls
old_calls c = calls_of c.old.from

abbrev pub new_calls : Corrections → Calls
new_calls c = calls_of c.new.from

-- nothing is given yet, and nothing was read of both ledgers
pub record IsUnbegun (c : Corrections) : Type 0 where
  pub of_old : c.old.bill ≡ Old
  pub of_new : c.new.bill ≡ New
  pub none : c.tally.removed ≡ 0
  pub closed : sum_in c.tally.last ≡ None
  pub fresh_old : IsFresh c.old.from
  pub fresh_new : IsFresh c.new.from

-- Both ledgers were read to their ends, this is the whole text, and so many lines are removed.
pub record IsAllGiven (by_token : Bool) (old new : Calls) (text : List ℕ) (removed : ℕ) : Type 0
  where
    pub old_whole : IsWhole old
    pub new_whole : IsWhole new
    pub text_is : corrections_of by_token old.reading.bytes new.reading.bytes ≡ Some (text, removed)

-- They have given this text; or it is the whole one.
abbrev pub IsGivenAfter : Corrections → Bool → Option ℕ → List ℕ → Type 0
IsGivenAfter c by_token None text = HasGiven c by_token text
IsGivenAfter c by_token (Some removed) text =
    IsAllGiven by_token (old_calls c) (new_calls c) text removed

-- those of the bill
abbrev pub calls_by : Bill → Calls → Calls → Calls
calls_by Old old new = old
calls_by New old new = new

-- THE rule of a fault, of what reads gave of both, whatever follows: a line that is refused is the
-- first wrong one of its ledger, for this reason, and a read that failed is in the trace.
abbrev pub IsFaultOf : CorrectionsFault → Calls → Calls → Type 0
IsFaultOf (Line bill number why) old new =
    (whole : List ℕ) → CanBe (calls_by bill old new) whole → rows_of whole ≡ Err (number, why)
IsFaultOf (Unread bill) old new = IsUnread (calls_by bill old new)
IsFaultOf NoMemory old new = ⊤

-- With more after it, the text would be the whole one of these ledgers; or a line of one is wrong.
abbrev pub IsStarted : Bool → List ℕ → List ℕ → List ℕ → Type 0
IsStarted by_token text old new =
    ((rest : List ℕ) × (removed : ℕ) × (corrections_of by_token old new ≡ Some (text ++ rest, removed)))
    ⊎ (((wrong : ℕ × WrongLine) × (rows_of old ≡ Err wrong))
    ⊎ ((wrong : ℕ × WrongLine) × (rows_of new ≡ Err wrong)))

-- the same, of what reads gave of both, whatever follows
abbrev pub HasStarted : Bool → List ℕ → Calls → Calls → Type 0
HasStarted by_token text old new =
    (o n : List ℕ) → CanBe old o → CanBe new n → IsStarted by_token text o n
