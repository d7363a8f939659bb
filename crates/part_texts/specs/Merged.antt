-- What the texts of parts are merged into.
use Rattle.fare_texts.specs.{Counts.totals_line, LedgerLines.head_text, ReportLines.number_line}
use Rattle.histories.specs.Sums.{Sums}
use Rattle.line_folds.specs.Folds.{bounded, lines_of, run}
use Rattle.part_texts.specs.FrontSteps.{at_part, front_step, is_over, part_end}
use Rattle.part_texts.specs.Fronts.{FrontsView, no_fronts, no_sums}
use Rattle.part_texts.specs.declared.fronts.Stage.{Stage, TheVariants.Head}
use Rattle.report_texts.specs.Report.{uploads_section, validators_section}
use Rattle.report_texts.specs.declared.wrong.Wrong.{Wrong, TheVariants.Form}
use Rattle.std.specs.Prelude.{ℕ, Bool, true, false, cond, List, [], ◌∷◌, ◌++◌, flat_map, Option}
use Rattle.std.specs.Prelude.{Some, None, Result, Ok, Err, codes, length, map}
use Rattle.tap_views.specs.declared.upload_end.UploadEnd.TheVariants.{Posted}

-- a text, the number of a line of it, and what is wrong with that line
abbrev pub WrongLine : Type 0
WrongLine = ℕ × (ℕ × Wrong)

abbrev pub and_then : {S T E : Type 0} → Result S E → (S → Result T E) → Result T E
and_then (Ok state) next = next state
and_then (Err why) next = Err why

-- a part as far as it is read: which line is next, its number, and the lines from there on
pub record PartView : Type 0 where
  pub stage : Stage
  -- the part's totals
  pub part : Sums
  pub number : ℕ
  pub lines : List (List ℕ)

-- nothing is read of the text
abbrev pub initial : List ℕ → PartView
initial text = record { stage = Head; part = no_sums; number = 1; lines = lines_of text }

abbrev pub left_of : ℕ × FrontsView × List (List ℕ) → PartView
left_of read =
    record { stage = read.1.stage; part = read.1.part; number = read.0; lines = read.2 }

abbrev pub end_or : WrongLine → ℕ × FrontsView × List (List ℕ) → Option Wrong
    → Result (ℕ × FrontsView × List (List ℕ)) WrongLine
end_or position read None = Ok read
end_or position read (Some why) = Err (position.0, (position.1.0, why))

-- the lines of the part at this place end where they may
abbrev pub ended : Bool → ℕ → Result (ℕ × FrontsView × List (List ℕ)) (ℕ × Wrong)
    → Result (ℕ × FrontsView × List (List ℕ)) WrongLine
ended is_copied position (Ok read) =
    cond (is_over is_copied read.1) (Ok read)
    (end_or (position, (read.0, Form)) read (part_end read.1))
ended is_copied position (Err wrong) = Err (position, wrong)

-- the part at this place, from the line of this number on: its front, or all lines, which are copied
abbrev pub read_of : Bool → ℕ → ℕ → FrontsView → List (List ℕ)
    → Result (ℕ × FrontsView × List (List ℕ)) WrongLine
read_of is_copied position number s lines =
    ended is_copied position (run (is_over is_copied) (bounded Form front_step) number s lines)

abbrev pub is_none_left : {A : Type 0} → List A → Bool
is_none_left [] = true
is_none_left (one ∷ more) = false

-- all parts, after those that were read
abbrev pub read_all : Bool → FrontsView → List PartView → List PartView
    → Result (FrontsView × List PartView) WrongLine
read_all is_copied s done [] = Ok (s, done)
read_all is_copied s done (p ∷ parts) =
    and_then (read_of is_copied (length done) p.number
    (at_part (length done) (is_none_left parts) p.stage p.part s) p.lines) (λ read.
    read_all is_copied read.1 (done ++ left_of read ∷ []) parts)

-- the whole's report up to its lines of tokens
abbrev pub report_front : FrontsView → List ℕ
report_front s =
    uploads_section (map Posted s.taps)
    ++ (totals_line s.totals ++ (validators_section s.validators
    ++ number_line (codes "tokens ") s.tokens))

-- the whole's text up to its lines of tokens or of entries
abbrev pub whole_front : FrontsView → List ℕ
whole_front s = cond s.is_ledger head_text (report_front s)

abbrev pub lines_left : List PartView → List ℕ
lines_left parts = flat_map (λ part. flat_map (λ line. line) part.lines) parts

abbrev pub merged : FrontsView × List PartView → Result (List ℕ) WrongLine
merged read =
    and_then (read_all true no_fronts [] read.1) (λ end.
    Ok (whole_front read.0 ++ lines_left read.1))

-- THE text into which the texts of parts, in their order, are merged: a report or a ledger. Or the
-- first line that is wrong, and why: the fronts of all parts come before the lines after them.
abbrev pub merge_of : List (List ℕ) → Result (List ℕ) WrongLine
merge_of [] = Err (0, (1, Form))
merge_of (text ∷ texts) = and_then (read_all false no_fronts [] (map initial (text ∷ texts))) merged
