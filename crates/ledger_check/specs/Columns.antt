-- The three columns of a traced ledger's line: the class of the token's rider, the number of an
-- upload, and the tap's place there.
use Rattle.fare_texts.specs.LedgerLines.{head_text}
use Rattle.ledger_check.specs.{Lines.lines_of, declared.columns.CutLine.CutLine}
use Rattle.line_forms.specs.{Forms.said_by, Forms.value_if, Numbers.number_at, Numbers.number_in}
use Rattle.std.specs.{Fmt.decimal, List.list_all, Prelude.◌≡◌}
use Rattle.std.specs.Prelude.{ℕ, ◌^◌, ◌&&◌, ◌||◌, ◌==◌, ◌<◌, Bool, true, List, [], ◌∷◌, ◌++◌, codes}
use Rattle.std.specs.Prelude.{if◌then◌else◌, length, nat_le, nat_lt, Option, None, Some, take}
use Rattle.std.specs.Str.{bytes_eq}

-- the header line of a traced ledger
unfoldable pub traced_head : List ℕ
traced_head = codes
    "token,line,moment,validator,mode,answer,cents,window_start,window_end,ride,reason,points_at,class,upload,place\n"

-- whether the text begins with that line
abbrev pub has_traced_head : List ℕ → Bool
has_traced_head text = bytes_eq (take (length traced_head) text) traced_head

-- whether the text begins with the header line of a ledger that is not traced
abbrev pub has_plain_head : List ℕ → Bool
has_plain_head text = bytes_eq head_text (take (length head_text) text)

-- whether the text begins with the header line of a ledger, traced or not
abbrev pub has_ledger_head : List ℕ → Bool
has_ledger_head text = has_plain_head text || has_traced_head text

-- what is before the last comma of a text and after it, if it has one after this byte
abbrev pub with_byte : ℕ → List ℕ → Option (List ℕ × List ℕ) → Option (List ℕ × List ℕ)
with_byte byte text None = if byte == 44 then Some ([], text) else None
with_byte byte text (Some parts) = Some (byte ∷ parts.0, parts.1)

-- what is before the last comma of a text, and what is after it
unfoldable pub last_field : List ℕ → Option (List ℕ × List ℕ)
last_field [] = None
last_field (byte ∷ text) = with_byte byte text (last_field text)

-- a letter, a digit, a hyphen or a low line
abbrev pub is_name_byte : ℕ → Bool
is_name_byte byte =
    (nat_le 97 byte && nat_le byte 122) || ((nat_le 65 byte && nat_le byte 90)
    || ((nat_le 48 byte && nat_le byte 57) || (byte == 45 || byte == 95)))

-- 1 to 64 letters, digits, hyphens and low lines
abbrev pub is_class_name : List ℕ → Bool
is_class_name name =
    nat_le 1 (length name) && (nat_le (length name) 64 && list_all is_name_byte name)

-- a line of a traced ledger: the twelve fields of a ledger's line, and the columns
pub record TracedLine : Type 0 where
  pub fields : List ℕ
  pub class : List ℕ
  pub upload : ℕ
  pub position : ℕ

-- what a line was cut into
abbrev pub cut_of : CutLine → TracedLine
cut_of cut = record {
  fields = cut.fields.now;
  class = cut.class.now;
  upload = cut.upload;
  position = cut.position;
}

-- what follows from a value, if there is one
abbrev pub on : {A B : Type 0} → Option A → (A → Option B) → Option B
on None next = None
on (Some value) next = next value

-- the class that ends a text, and the fields before its comma, if the class can be one of a ledger
-- and the fields those of a line
abbrev pub class_in : ℕ → ℕ → List ℕ → Option TracedLine
class_in upload position text = on (last_field text) (λ parts.
    value_if (nat_lt (length parts.0) 255 && is_class_name parts.1) (record {
      fields = parts.0;
      class = parts.1;
      upload = upload;
      position = position;
    }))

-- the upload's number that ends a text, and the class and the fields before it
abbrev pub upload_in : ℕ → List ℕ → Option TracedLine
upload_in position text = on (last_field text) (λ parts.
    on (number_in (2 ^ 32) parts.1) (λ upload. class_in upload position parts.0))

-- the number with a line feed after it
abbrev pub number_line : List ℕ → Option ℕ
number_line text = said_by (number_at (2 ^ 64)) text

-- the place that ends a line, and what is before it
abbrev pub columns_in : List ℕ → Option TracedLine
columns_in line =
    on (last_field line) (λ parts. on (number_line parts.1) (λ position. upload_in position parts.0))

-- The line's fields and its columns, if it has the form of a traced ledger's line. Then it has at
-- most 352 bytes.
unfoldable pub cut_line : List ℕ → Option TracedLine
cut_line line = if nat_lt 352 (length line) then None else columns_in line

-- what is read in place of a line: its fields, the header line of a ledger for that of a traced
-- one, or an empty line, which is in no ledger
abbrev pub untraced_by : List ℕ → Option TracedLine → List ℕ
untraced_by line None = if bytes_eq line traced_head then head_text else 10 ∷ []
untraced_by line (Some cut) = cut.fields ++ 10 ∷ []

abbrev pub untraced_line : List ℕ → List ℕ
untraced_line line = untraced_by line (cut_line line)

-- what is read in place of lines
abbrev pub untraced_lines : List (List ℕ) → List ℕ
untraced_lines [] = []
untraced_lines (line ∷ lines) = untraced_line line ++ untraced_lines lines

-- the ledger that is read of a file: a traced ledger without its columns, and any other as it is
abbrev pub read_as : Bool → List ℕ → List ℕ
read_as traced file = if traced then untraced_lines (lines_of file) else file

-- the columns can be those of a ledger's line, and the fields those of one
pub record IsTraced (cut : TracedLine) : Type 0 where
  pub fields : length cut.fields < 255
  pub class : is_class_name cut.class ≡ true
  pub upload : cut.upload < 2 ^ 32
  pub position : cut.position < 2 ^ 64

-- the fields, and the columns after them: `..,adult,0,1`
abbrev pub traced_text : TracedLine → List ℕ
traced_text cut = cut.fields ++ (codes "," ++ (cut.class ++ (codes "," ++ (decimal cut.upload
    ++ (codes "," ++ (decimal cut.position ++ codes "\n"))))))

-- what is written so is read back: the same fields and class, the same place of the same upload
abbrev pub ColumnsAreReadBack : Type 0
ColumnsAreReadBack = (cut : TracedLine) → IsTraced cut → cut_line (traced_text cut) ≡ Some cut
