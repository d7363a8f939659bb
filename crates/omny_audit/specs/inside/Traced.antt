-- Traced ledgers: what private functions alone cite.
use Rattle.class_names.specs.Names.{class_by}
use Rattle.ledger_check.specs.{Columns.cut_of, Columns.untraced_lines, Lines.Lacks, Lines.lines_of}
use Rattle.ledger_check.specs.Positions.{is_named, uploads_of}
use Rattle.ledger_check.specs.declared.{columns.CutLine.CutLine, positions.Positions.Positions}
use Rattle.omny_audit.specs.Traced.{AreLinesOf, AreRead, ReadLine, TapWithColumns, Wanted}
use Rattle.omny_audit.specs.Traced.{have_position, lines_read, wrong_class, wrong_position}
use Rattle.omny_audit.specs.declared.traced.{LinesRead.LinesRead, PositionFault.PositionFault}
use Rattle.omny_audit.specs.declared.traced.TracedPieces.{TracedPieces}
use Rattle.std.specs.Prelude.{◌≡◌, ◌⊎◌, ℕ, ◌<◌, Bool, true, false, List, ◌++◌, length, option_map}
use Rattle.std.specs.Prelude.{Option, None, Some}
use Rattle.tap_views.specs.declared.encoder.TapFields.{TapFields}

-- what a line names
abbrev pub placed_of : TapFields × CutLine → TapWithColumns
placed_of named = (named.0, cut_of named.1)

-- the valid taps of the uploads whose places are kept
abbrev pub uploads_in : Option Positions → Option (List (List TapFields))
uploads_in positions = option_map uploads_of positions

-- the first line that has a wrong place, if there are uploads
abbrev pub wrong_position_in : Option (List (List TapFields)) → List ReadLine → Option PositionFault
wrong_position_in None read = None
wrong_position_in (Some uploads) read = wrong_position uploads read

-- the places that were named are those of the lines
abbrev pub HaveNamed : Option Positions → List ReadLine → Type 0
HaveNamed None read = Unit {0}
HaveNamed (Some positions) read =
    (upload position : ℕ) → is_named positions upload position ≡ have_position read upload position

-- the places of the lines were looked at
pub record HasPositions (positions : Option Positions) (wrong : Option PositionFault) (read : List ReadLine)
    : Type 0 where
  pub wrong_is : wrong ≡ wrong_position_in (uploads_in positions) read
  pub named : wrong ≡ None → HaveNamed positions read

-- the columns of the lines were looked at
pub record HasLooked (so_far : LinesRead) (read : List ReadLine) : Type 0 where
  pub count : so_far.lines ≡ length read
  pub class : so_far.wrong_class ≡ wrong_class (class_by so_far.names) read
  pub positions : HasPositions so_far.positions so_far.wrong_position read

-- these lines were read, and this text in their place
pub record HasLines (so_far : LinesRead) (text : List ℕ) (read : List ReadLine) : Type 0 where
  pub are : AreRead read
  pub looked : HasLooked so_far read
  pub shown : text ≡ untraced_lines (lines_read read)

-- of the text all is kept, or more than the longest line has
abbrev pub IsKeptOf : List ℕ → List ℕ → Type 0
IsKeptOf kept text = (kept ≡ text) ⊎ ((352 < length kept) × (352 < length text))

-- the trace has read this file: these whole lines, this text in their place, and some of the next
-- one
pub record HasTraced (trace : TracedPieces) (file text : List ℕ) (read : List ReadLine)
    : Type 0 where
  pub lines : HasLines trace.so_far text read
  pub started : List ℕ
  pub kept : IsKeptOf trace.started.items started
  pub lacks : Lacks 10 started
  pub split : (more : List ℕ)
      → lines_of (file ++ more) ≡ lines_read read ++ lines_of (started ++ more)

-- the file was read whole
abbrev pub HasReadAll : Option TracedPieces → List ℕ → Type 0
HasReadAll None file = Unit {0}
HasReadAll (Some trace) file =
    (read : List ReadLine) × AreLinesOf file read × HasLooked trace.so_far read

-- the file was read so far, or whole, and this in its place
abbrev pub HasReadAs : Option TracedPieces → Bool → List ℕ → List ℕ → Type 0
HasReadAs None whole file text = text ≡ file
HasReadAs (Some trace) false file text = (read : List ReadLine) × HasTraced trace file text read
HasReadAs (Some trace) true file text =
    (text ≡ untraced_lines (lines_of file)) × HasReadAll (Some trace) file

-- what the columns are compared with
abbrev pub wanted_of : LinesRead → Wanted
wanted_of so_far =
    record { classes = class_by so_far.names; uploads = uploads_in so_far.positions }

-- what the columns are compared with, if the ledger is traced
abbrev pub wanted_by : Option TracedPieces → Option Wanted
wanted_by trace = option_map (λ t. wanted_of t.so_far) trace
