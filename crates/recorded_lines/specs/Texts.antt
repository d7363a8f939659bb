-- A text that is read line by line: what it can be, by what reads gave of it, and what is left.
use Rattle.line_folds.specs.{Folds.lines_of, declared.reader.NextLine.NextLine}
use Rattle.line_folds.specs.declared.reader.NextLine.TheVariants.{Whole, Long, End}
use Rattle.line_folds.specs.declared.reader.ReadFault.{ReadFault, TheVariants.Unread}
use Rattle.recorded_lines.specs.{Unread.IsUnread, declared.text.Lines.Lines}
use Rattle.std.specs.Prelude.{◌≡◌, ℕ, List, [], ◌∷◌, ◌++◌, IfErr, IfOk, Result, drop, false, length}
use Rattle.std.specs.Prelude.{nat_lt, true}
use Rattle.world.specs.{Run.Calls, Streams.IsWhole}

-- The whole text may be this: what reads gave, whatever follows. Nothing does if they came to the end.
pub record CanBe (calls : Calls) (whole : List ℕ) : Type 0 where
  pub more : List ℕ
  pub begins : whole ≡ calls.reading.bytes ++ more
  pub ends : IsWhole calls → more ≡ []

-- the calls by which it was read
abbrev pub calls_of : Lines → Calls
calls_of lines = lines.stream.trace

-- what reads gave that is in no line yet
abbrev pub pending : Lines → List ℕ
pending lines = drop lines.at lines.piece.items

-- what is left to be read of the text, if it is this
abbrev pub left : Lines → List ℕ → List ℕ
left lines whole = pending lines ++ drop (length (calls_of lines).reading.bytes) whole

-- nothing is left: the reads came to the end
pub record IsEndAt (lines : Lines) : Type 0 where
  pub none : pending lines ≡ []
  pub whole : IsWhole (calls_of lines)

-- It was read on: what the text can be now, it could be before.
pub record Follows (old new : Lines) : Type 0 where
  pub name : (calls_of new).reading.name ≡ (calls_of old).reading.name
  pub back : (whole : List ℕ) → CanBe (calls_of new) whole → CanBe (calls_of old) whole

-- The next line of the text is this, and what follows it is left; or the next line has more than
-- 1,024 bytes; or there is none.
abbrev pub IsNextLine : List ℕ → List ℕ → List ℕ → NextLine → Type 0
IsNextLine text line rest Whole =
    (lines_of text ≡ line ∷ lines_of rest) × (nat_lt 1024 (length line) ≡ false)
IsNextLine text line rest Long =
    (long : List ℕ) × (lines : List (List ℕ)) × (lines_of text ≡ long ∷ lines) × (nat_lt 1024 (length long) ≡ true)
IsNextLine text line rest End = (text ≡ []) × (rest ≡ [])

-- the next line was read by this, or the fault says why it was not
pub record HasReadLine (old new : Lines) (line : List ℕ) (result : Result NextLine ReadFault) : Type 0 where
  pub follows : Follows old new
  pub next : (whole : List ℕ) → IfOk result (λ next. CanBe (calls_of new) whole
      → IsNextLine (left old whole) line (left new whole) next)
  pub ended : IfOk result (λ next. next ≡ End → IsEndAt new)
  pub unread : IfErr result (λ why. why ≡ Unread → IsUnread (calls_of new))

-- nothing was read
pub record IsFresh (lines : Lines) : Type 0 where
  pub none : pending lines ≡ []
  pub unread : (calls_of lines).reading.bytes ≡ []
