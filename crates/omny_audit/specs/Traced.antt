-- A traced ledger, as it is read line by line, and what is found of its columns.
use Rattle.ledger_check.specs.Columns.{TracedLine, cut_line}
use Rattle.ledger_check.specs.{Lines.lines_of, Positions.IsFirstUnnamed}
use Rattle.ledger_check.specs.Positions.{IsUnnamed, is_position, position_finding, tap_at}
use Rattle.ledger_check.specs.{Taps.IsTapOfLine, declared.positions.PositionFinding.PositionFinding}
use Rattle.ledger_check.specs.declared.positions.PositionFinding.TheVariants.{Right, Another, Again}
use Rattle.omny_audit.specs.declared.traced.PositionFault.{PositionFault}
use Rattle.omny_audit.specs.declared.traced.PositionFault.TheVariants.{NoLine, OtherTap, Repeated}
use Rattle.omny_audit.specs.declared.traced.WrongClass.{WrongClass}
use Rattle.std.specs.{Fmt.decimal, Option.option_or, Prelude.◌≡◌}
use Rattle.std.specs.Prelude.{ℕ, ◌+◌, ◌&&◌, ◌||◌, Bool, true, false, List, [], ◌∷◌, ◌++◌, codes}
use Rattle.std.specs.Prelude.{if◌then◌else◌, is_some, length, not, Option, None, Some, option_map}
use Rattle.std.specs.Str.{bytes_eq}
use Rattle.tap_views.specs.declared.encoder.TapFields.{TapFields}

-- a tap, and its line, which has the columns
abbrev pub TapWithColumns : Type 0
TapWithColumns = TapFields × TracedLine

-- a line that has not the form of a traced one names no tap, and a line that has it names the one
-- of its fields, if these name one
abbrev pub NamesTapWithColumns : Option TracedLine → Option TapWithColumns → Type 0
NamesTapWithColumns None traced = traced ≡ None
NamesTapWithColumns (Some cut) traced =
    (tap : Option TapFields) × IsTapOfLine (cut.fields ++ 10 ∷ []) tap
    × (traced ≡ option_map (λ (t : TapFields). (t, cut)) tap)

-- a line that was read, and what it names
pub record ReadLine : Type 0 where
  pub line : List ℕ
  pub traced : Option TapWithColumns

-- what is kept of each line is what it names; the lines are last first
abbrev pub AreRead : List ReadLine → Type 0
AreRead [] = Unit {0}
AreRead (read ∷ earlier) = AreRead earlier × NamesTapWithColumns (cut_line read.line) read.traced

-- the lines, the first one first
abbrev pub lines_read : List ReadLine → List (List ℕ)
lines_read [] = []
lines_read (read ∷ earlier) = lines_read earlier ++ read.line ∷ []

-- the fault of a line that has another class than the one of its token at its moment
abbrev pub class_fault : (ℕ → List ℕ → List ℕ) → ℕ → Option TapWithColumns → Option WrongClass
class_fault classes line None = None
class_fault classes line (Some traced) =
    if bytes_eq (classes traced.0.moment traced.0.token) traced.1.class then None
    else Some (record { line = line; moment = traced.0.moment; token = traced.0.token })

-- the first line that has another class than the one of its token at its moment
abbrev pub wrong_class : (ℕ → List ℕ → List ℕ) → List ReadLine → Option WrongClass
wrong_class classes [] = None
wrong_class classes (read ∷ earlier) =
    option_or (wrong_class classes earlier) (class_fault classes (length earlier + 1) read.traced)

-- `all classes of the table`, or `line 4 has another class than adult`
unfoldable pub class_text : (ℕ → List ℕ → List ℕ) → Option WrongClass → List ℕ
class_text classes None = codes "all classes of the table\n"
class_text classes (Some fault) =
    codes "line " ++ (decimal fault.line ++ (codes " has another class than "
    ++ (classes fault.moment fault.token ++ codes "\n")))

-- whether the line has this upload and place
abbrev pub has_position : ℕ → ℕ → Option TapWithColumns → Bool
has_position upload position None = false
has_position upload position (Some traced) =
    is_position upload position traced.1.upload traced.1.position

-- whether one of the lines has this upload and place
abbrev pub have_position : List ReadLine → ℕ → ℕ → Bool
have_position [] upload position = false
have_position (read ∷ earlier) upload position =
    have_position earlier upload position || has_position upload position read.traced

-- the fault of a line by what is found of its tap at its place
abbrev pub fault_by : ℕ → ℕ → ℕ → PositionFinding → Option PositionFault
fault_by line upload position Right = None
fault_by line upload position Another = Some (OtherTap line upload position)
fault_by line upload position Again = Some (Repeated line upload position)

-- the fault of a line after earlier ones: another tap is at its place, or an earlier line has
-- its place
abbrev pub position_fault : List (List TapFields) → List ReadLine → ℕ → Option TapWithColumns
    → Option PositionFault
position_fault uploads earlier line None = None
position_fault uploads earlier line (Some traced) =
    fault_by line traced.1.upload traced.1.position
    (position_finding (tap_at uploads traced.1.upload traced.1.position)
    (have_position earlier traced.1.upload traced.1.position) traced.0)

-- the first line that has such a fault
abbrev pub wrong_position : List (List TapFields) → List ReadLine → Option PositionFault
wrong_position uploads [] = None
wrong_position uploads (read ∷ earlier) = option_or (wrong_position uploads earlier)
    (position_fault uploads earlier (length earlier + 1) read.traced)

-- after lines of which one is wrong this is the fault; else it is the first place that was not
-- named, if there is one
abbrev pub IsFaultAfter : List (List TapFields) → (ℕ → ℕ → Bool) → Option PositionFault
    → Option PositionFault → Type 0
IsFaultAfter uploads named (Some wrong) fault = fault ≡ Some wrong
IsFaultAfter uploads named None None =
    (upload position : ℕ) → ¬ (IsUnnamed uploads named upload position)
IsFaultAfter uploads named None (Some (NoLine upload position)) =
    IsFirstUnnamed uploads named upload position
IsFaultAfter uploads named None (Some _) = ⊥

-- what is wrong first with the places of the lines, if there are uploads
abbrev pub IsPositionFault : Option (List (List TapFields)) → List ReadLine → Option PositionFault
    → Type 0
IsPositionFault None read fault = fault ≡ None
IsPositionFault (Some uploads) read fault =
    IsFaultAfter uploads (have_position read) (wrong_position uploads read) fault

-- `line 3 has another tap than upload 0 has at place 2`, `line 4 has upload 0 place 2 again` or `no
-- line has upload 0 place 3`, with its newline
abbrev pub fault_text : PositionFault → List ℕ
fault_text (OtherTap line upload position) =
    codes "line " ++ (decimal line ++ (codes " has another tap than upload " ++ (decimal upload
    ++ (codes " has at place " ++ (decimal position ++ codes "\n")))))
fault_text (Repeated line upload position) =
    codes "line " ++ (decimal line ++ (codes " has upload " ++ (decimal upload
    ++ (codes " place " ++ (decimal position ++ codes " again\n")))))
fault_text (NoLine upload position) =
    codes "no line has upload "
    ++ (decimal upload ++ (codes " place " ++ (decimal position ++ codes "\n")))

abbrev pub positions_text : Option PositionFault → List ℕ
positions_text None = codes "all places of the uploads\n"
positions_text (Some fault) = fault_text fault

-- what is reported of the places, if there are uploads
abbrev pub position_text : Option (List (List TapFields)) → Option PositionFault → List ℕ
position_text None fault = []
position_text (Some uploads) fault = positions_text fault

-- what the columns of a traced ledger are compared with: the class of each token at a moment, and
-- the valid taps of each upload, if there are uploads
pub record Wanted : Type 0 where
  pub classes : ℕ → List ℕ → List ℕ
  pub uploads : Option (List (List TapFields))

-- the lines of the file were read
pub record AreLinesOf (file : List ℕ) (read : List ReadLine) : Type 0 where
  pub split : lines_read read ≡ lines_of file
  pub are : AreRead read

-- What is reported of the columns of a file, of which these lines were read: nothing of a ledger
-- that is not traced, which has right ones, and nothing of one that is not looked at.
abbrev pub AreColumnsReported : Option Wanted → Bool → List ℕ → List ReadLine → List ℕ → Bool
    → Type 0
AreColumnsReported None looked file read reported right = (reported ≡ []) × (right ≡ true)
AreColumnsReported (Some wanted) false file read reported right = (reported ≡ []) × (right ≡ false)
AreColumnsReported (Some wanted) true file read reported right =
    AreLinesOf file read × (fault : Option PositionFault) × IsPositionFault wanted.uploads read fault
    × (reported ≡ class_text wanted.classes (wrong_class wanted.classes read)
    ++ position_text wanted.uploads fault)
    × (right ≡ (not (is_some (wrong_class wanted.classes read)) && not (is_some fault)))

-- The columns of the lines are right, if the ledger is traced: each line has the class of its token,
-- and nothing is wrong with its place.
abbrev pub HasRightColumns : Option Wanted → List ℕ → List ReadLine → Type 0
HasRightColumns None file read = Unit {0}
HasRightColumns (Some wanted) file read = AreLinesOf file read
    × (wrong_class wanted.classes read ≡ None) × IsPositionFault wanted.uploads read None
