-- What `corrections` does.
use Rattle.frame.specs.Names.{file_named}
use Rattle.ledger_changes.specs.Given.{HasStarted, IsAllGiven, calls_by}
use Rattle.ledger_changes.specs.Ledgers.{rows_of}
use Rattle.ledger_changes.specs.declared.fault.{Bill.Bill, WrongLine.WrongLine}
use Rattle.recorded_lines.specs.Texts.{CanBe}
use Rattle.std.specs.Prelude.{◌≡◌, ◌⊎◌, ℕ, List, [], ◌∷◌, ◌++◌, Err, codes, decimal}
use Rattle.tool_tasks.specs.Streams.{Stream}
use Rattle.tool_words.specs.Request.{CorrectionsRequest}
use Rattle.world.specs.Run.{Calls}

-- nothing is noted if no line is removed; else the line ends with their number
abbrev pub IsRemovedNote : ℕ → List ℕ → Type 0
IsRemovedNote removed note = ((removed ≡ 0) × (note ≡ []))
    ⊎ ((words : List ℕ) × (note ≡ words ++ (decimal removed ++ codes "\n")))

-- these calls read what the words name: the old ledger, and the new one
pub record AreRead (request : CorrectionsRequest) (calls : List Calls) (old new : Calls) : Type 0
  where
    pub all : calls ≡ old ∷ new ∷ []
    pub old_name : old.reading.name ≡ file_named request.old
    pub new_name : new.reading.name ≡ file_named request.new

-- Both ledgers were read to their ends, this is the text of the corrections between them, and it is
-- noted how many lines are removed, if any are.
abbrev pub Corrects : CorrectionsRequest → List Calls → List ℕ → List ℕ → Type 0
Corrects request calls text note = (old : Calls) × (new : Calls) × AreRead request calls old new
    × (removed : ℕ) × IsAllGiven request.is_by_token old new text removed
    × IsRemovedNote removed note

-- one of them is no settled ledger: this is its first wrong line, whatever follows what reads gave
abbrev pub IsWrongLedger : CorrectionsRequest → List Calls → Type 0
IsWrongLedger request calls = (old : Calls) × (new : Calls) × AreRead request calls old new
    × (bill : Bill) × (number : ℕ) × (why : WrongLine)
    × ((whole : List ℕ) → CanBe (calls_by bill old new) whole → rows_of whole ≡ Err (number, why))

-- what was written is a prefix of the right text of what reads gave, whatever follows, unless a line
-- of that is wrong
abbrev pub IsPart : CorrectionsRequest → List Calls → List ℕ → Type 0
IsPart request calls text = (old : Calls) × (new : Calls) × AreRead request calls old new
    × HasStarted request.is_by_token text old new

-- THE rule of `corrections`, by the calls that read the ledgers
abbrev pub corrections_stream : CorrectionsRequest → List Calls → Stream
corrections_stream request calls = record {
  words = request.old ∷ request.new ∷ [];
  calls = calls;
  Whole = Corrects request calls;
  Part = IsPart request calls;
  Wrong = IsWrongLedger request calls;
}
