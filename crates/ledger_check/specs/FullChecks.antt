-- A ledger's lines in a full check: each is compared with the line that the rules give its tap
-- after the taps of the lines before it, whatever those lines say of their replies. Taken lines are
-- listed last first.
use Rattle.fare_texts.specs.{Explainers.next_entry, LedgerLines.IsLedgerLineAfter}
use Rattle.fare_texts.specs.{LedgerLines.head_text, Moments.IsMomentText}
use Rattle.hex.specs.Hex.{encode_lower}
use Rattle.histories.specs.{Entry.own, declared.entry.Entry.Entry}
use Rattle.ledger_check.specs.Ledger.{IsLedger, IsLedgerOf, token_number}
use Rattle.ledger_check.specs.{Lines.lines_of, Orders.early_line, Orders.tap_of_entry}
use Rattle.ledger_check.specs.declared.walk.{CountedTap.CountedTap, LineFinding.LineFinding}
use Rattle.ledger_check.specs.declared.walk.Remark.{Remark}
use Rattle.ledger_check.specs.declared.walk.Remark.TheVariants.{Nothing, Wants, NoLine}
use Rattle.line_forms.specs.{Columns.column_where, Forms.Reader, Forms.after_read, Forms.then_read}
use Rattle.line_forms.specs.Numbers.{number_in}
use Rattle.std.specs.{Fmt.decimal, Option.option_and_then, Option.unwrap_or, Prelude.◌≡◌}
use Rattle.std.specs.Prelude.{◌⊎◌, ℕ, ◌+◌, ◌-◌, ◌^◌, ◌<◌, ◌≤◌, Bool, true, false, List, [], ◌∷◌}
use Rattle.std.specs.Prelude.{◌++◌, length, Option, None, Some, codes, if◌then◌else◌, nat_eq, map}
use Rattle.std.specs.{Prelude.nat_lt, Str.bytes_eq}
use Rattle.tap_views.specs.Token.{Fits, bytes_of, token_eq}
use Rattle.tap_views.specs.declared.{encoder.TapFields.TapFields, token.Token.Token}
use Rattle.tariffs.specs.Fares.{Fares}

-- a column of a line, and the next one
abbrev pub any_column : Reader (List ℕ)
any_column = column_where (λ column. true)

abbrev pub next_column : Reader (List ℕ)
next_column = after_read (44 ∷ []) any_column

-- the columns of the token, the number, the moment and the validator
abbrev pub front_columns : Reader (List ℕ × (List ℕ × (List ℕ × List ℕ)))
front_columns = then_read any_column (then_read next_column (then_read next_column next_column))

-- the columns of the mode, the answer and the cents, and one after them
abbrev pub charge_columns : Reader (List ℕ × (List ℕ × (List ℕ × List ℕ)))
charge_columns = then_read next_column (then_read next_column (then_read next_column next_column))

-- The line names this tap: its first four columns are the token, any text, the moment and the
-- validator. Nothing is said of what is after them.
pub record IsLineOfTap (line : List ℕ) (token : Token) (validator moment : ℕ) (rest : List ℕ)
    : Type 0 where
  pub fits : Fits token
  pub small : validator < 2 ^ 32
  pub early : moment < 4_102_444_800_000
  pub number : List ℕ
  pub moment_text : List ℕ
  pub is : IsMomentText moment moment_text
  pub columns : front_columns line
      ≡ Some ((encode_lower (bytes_of token), (number, (moment_text, decimal validator))), rest)
  -- it ends with its newline, and has at most 255 bytes
  pub front : List ℕ
  pub ends : line ≡ front ++ 10 ∷ []
  pub short : length line ≤ 255

-- the number in the third column after the validator, if it is one
abbrev pub cents_in : List ℕ → Option ℕ
cents_in rest = option_and_then (λ parts. number_in (2 ^ 32) parts.0.1.1.0) (charge_columns rest)

-- the cents that the line asks for: its entry's if it is right, or 0 if its cents are not a number
abbrev pub AreCents : Remark → List ℕ → CountedTap → Type 0
AreCents remark rest tap = ((remark ≡ Nothing) × (tap.cents ≡ tap.entry.cents))
    ⊎ (tap.cents ≡ unwrap_or (cents_in rest) 0)

-- A line as a full check takes it: what is found of it, and the line that its tap should have, if
-- it names one.
pub record TakenLine : Type 0 where
  pub line : List ℕ
  pub finding : LineFinding
  pub wanted : List ℕ

-- the entries with one more, of which those of its token go on
abbrev pub run_with : List Entry → Option CountedTap → List Entry
run_with run None = run
run_with run (Some tap) = own tap.entry.token run ++ tap.entry ∷ []

-- the entries of the last token, from where its lines begin: those of the lines that name taps
abbrev pub run_of : List TakenLine → List Entry
run_of [] = []
run_of (taken ∷ earlier) = run_with (run_of earlier) taken.finding.tap

-- whether the token is less than that of these entries
abbrev pub decreases_after : List Entry → Token → Bool
decreases_after [] token = false
decreases_after (before ∷ run) token = nat_lt (token_number token) (token_number before.token)

-- the remark on a line: that it is not a ledger line, if its token falls, or the wanted line, if it
-- is another
abbrev pub remark_for : Bool → Bool → Remark
remark_for true same = NoLine
remark_for false true = Nothing
remark_for false false = Wants

-- the line names a tap, and is compared with the line that the rules give this tap after the
-- entries of its token
pub record IsCounted (fares : Fares) (run : List Entry) (line : List ℕ) (tap : CountedTap)
    (remark : Remark) (wanted : List ℕ) : Type 0 where
  pub rest : List ℕ
  pub of_tap : IsLineOfTap line tap.entry.token tap.entry.validator tap.entry.moment rest
  pub ruled : tap.entry ≡ next_entry fares tap.entry.token (own tap.entry.token run)
      tap.entry.validator tap.entry.moment
  pub shown : IsLedgerLineAfter fares tap.entry.token (own tap.entry.token run) tap.entry wanted
  pub cents : AreCents remark rest tap
  pub is_remark : remark ≡ remark_for (decreases_after run tap.entry.token) (bytes_eq line wanted)

-- a line that names no tap is not a ledger line
abbrev pub IsJudged : Fares → List Entry → List ℕ → Option CountedTap → Remark → List ℕ → Type 0
IsJudged fares run line None remark wanted =
    ((token : Token) (validator moment : ℕ) (rest : List ℕ)
    → ¬ (IsLineOfTap line token validator moment rest)) × (remark ≡ NoLine)
IsJudged fares run line (Some tap) remark wanted = IsCounted fares run line tap remark wanted

-- the first line should be the header line
abbrev pub IsTaken : Fares → List TakenLine → TakenLine → Type 0
IsTaken fares [] taken = (taken.finding.tap ≡ None)
    × (taken.finding.remark ≡ (if bytes_eq taken.line head_text then Nothing else NoLine))
IsTaken fares (before ∷ earlier) taken = IsJudged fares (run_of (before ∷ earlier)) taken.line
    taken.finding.tap taken.finding.remark taken.wanted

-- each line was taken after those before it
abbrev pub AreTaken : Fares → List TakenLine → Type 0
AreTaken fares [] = Unit {0}
AreTaken fares (taken ∷ earlier) = AreTaken fares earlier × IsTaken fares earlier taken

-- the lines, the first one first
abbrev pub lines_from : List TakenLine → List (List ℕ)
lines_from [] = []
lines_from (taken ∷ earlier) = lines_from earlier ++ taken.line ∷ []

-- the taps that the lines name, the first one first
abbrev pub taps_with : List TapFields → Option CountedTap → List TapFields
taps_with taps None = taps
taps_with taps (Some tap) = taps ++ tap_of_entry tap.entry ∷ []

abbrev pub taps_from : List TakenLine → List TapFields
taps_from [] = []
taps_from (taken ∷ earlier) = taps_with (taps_from earlier) taken.finding.tap

-- the entries that the rules give these taps
abbrev pub entries_with : List Entry → Option CountedTap → List Entry
entries_with entries None = entries
entries_with entries (Some tap) = entries ++ tap.entry ∷ []

abbrev pub entries_from : List TakenLine → List Entry
entries_from [] = []
entries_from (taken ∷ earlier) = entries_with (entries_from earlier) taken.finding.tap

-- `line 4 is no ledger line`
unfoldable pub no_line_text : ℕ → List ℕ
no_line_text number = codes "line " ++ (decimal number ++ codes " is no ledger line\n")

-- `line 4 wants LINE`; the wanted line has its newline
unfoldable pub wants_text : ℕ → List ℕ → List ℕ
wants_text number wanted = codes "line " ++ (decimal number ++ (codes " wants " ++ wanted))

-- the remark on the line of this number
abbrev pub remark_text : ℕ → Remark → List ℕ → List ℕ
remark_text number Nothing wanted = []
remark_text number Wants wanted = wants_text number wanted
remark_text number NoLine wanted = no_line_text number

-- the remarks on the lines, the first one first
abbrev pub remark_lines : List TakenLine → List ℕ
remark_lines [] = []
remark_lines (taken ∷ earlier) =
    remark_lines earlier ++ remark_text (length earlier + 1) taken.finding.remark taken.wanted

-- 1 for a line with a remark
abbrev pub one_wrong : Remark → ℕ
one_wrong Nothing = 0
one_wrong Wants = 1
one_wrong NoLine = 1

-- how many lines are wrong
abbrev pub wrong_count : List TakenLine → ℕ
wrong_count [] = 0
wrong_count (taken ∷ earlier) = wrong_count earlier + one_wrong taken.finding.remark

-- the token of a wrong line, if it names a tap; else the last one
abbrev pub wrong_token_of : Option Token → Remark → Option CountedTap → Option Token
wrong_token_of last remark None = last
wrong_token_of last Nothing (Some tap) = last
wrong_token_of last Wants (Some tap) = Some tap.entry.token
wrong_token_of last NoLine (Some tap) = Some tap.entry.token

abbrev pub last_wrong_token : List TakenLine → Option Token
last_wrong_token [] = None
last_wrong_token (taken ∷ earlier) =
    wrong_token_of (last_wrong_token earlier) taken.finding.remark taken.finding.tap

-- 1 for another token
abbrev pub one_other : Option Token → Option Token → ℕ
one_other last None = 0
one_other None (Some token) = 1
one_other (Some last) (Some token) = if token_eq last token then 0 else 1

-- how many tokens have wrong lines: wrong lines that follow each other count once for a token
abbrev pub token_count : List TakenLine → ℕ
token_count [] = 0
token_count (taken ∷ earlier) = token_count earlier
    + one_other (last_wrong_token earlier) (last_wrong_token (taken ∷ earlier))

-- the cents that a line asks for, and those that the rules give its tap
abbrev pub charged_cents : Option CountedTap → ℕ
charged_cents None = 0
charged_cents (Some tap) = tap.cents

abbrev pub ruled_cents : Option CountedTap → ℕ
ruled_cents None = 0
ruled_cents (Some tap) = tap.entry.cents

-- the cents of all lines, and those that the rules give all taps
abbrev pub cents_from : List TakenLine → ℕ
cents_from [] = 0
cents_from (taken ∷ earlier) = cents_from earlier + charged_cents taken.finding.tap

abbrev pub wanted_cents_from : List TakenLine → ℕ
wanted_cents_from [] = 0
wanted_cents_from (taken ∷ earlier) =
    wanted_cents_from earlier + ruled_cents taken.finding.tap

-- how a line `legal 6 lines` goes on, by the number of the first line that is earlier than the line
-- before it, if there is one
unfoldable pub order_text : Option ℕ → List ℕ
order_text None = codes ", settled\n"
order_text (Some line) = codes ", not settled: line "
    ++ (decimal line ++ codes " is earlier than the line before\n")

-- `legal 6 lines, settled` or `legal 6 lines, not settled: line 4 is earlier than the line before`
unfoldable pub legal_text : ℕ → Option ℕ → List ℕ
legal_text entries early =
    codes "legal " ++ (decimal entries ++ (codes " lines" ++ order_text early))

-- `wrong 7 of 175098 lines, of 6 tokens; cents 34876671, wanted 34876380`
unfoldable pub wrong_text : ℕ → ℕ → ℕ → ℕ → ℕ → List ℕ
wrong_text wrong entries tokens cents wanted =
    codes "wrong " ++ (decimal wrong ++ (codes " of " ++ (decimal entries
    ++ (codes " lines, of " ++ (decimal tokens ++ (codes " tokens; cents " ++ (decimal cents
    ++ (codes ", wanted " ++ (decimal wanted ++ codes "\n")))))))))

-- the line after the remarks; the header line is not counted among them
abbrev pub end_text : List TakenLine → List ℕ
end_text taken =
    if nat_eq (wrong_count taken) 0
    then legal_text (length taken - 1) (early_line (taps_from taken))
    else wrong_text (wrong_count taken) (length taken - 1) (token_count taken) (cents_from taken)
    (wanted_cents_from taken)

-- all lines of a text, of which the first may be empty
abbrev pub with_first : List (List ℕ) → List (List ℕ)
with_first [] = [] ∷ []
with_first (line ∷ lines) = line ∷ lines

-- these are the lines of the text, taken one after another
pub record IsFullCheck (fares : Fares) (text : List ℕ) (taken : List TakenLine) : Type 0 where
  pub split : with_first (lines_of text) ≡ lines_from taken
  pub are : AreTaken fares taken
  pub few : length taken ≤ 2 ^ 62

-- the whole text of a full check: the wrong lines, and its end
abbrev pub full_check_text : List TakenLine → List ℕ
full_check_text taken = remark_lines taken ++ end_text taken

-- No line has a remark exactly if the text is, whole, a ledger of legal histories; then its entries
-- are those that the rules give the taps that were read.
pub record FullCheckDecides (fares : Fares) (text : List ℕ) (taken : List TakenLine) : Type 0 where
  pub right : wrong_count taken ≡ 0 → IsLedger fares text
  pub all_right : IsLedger fares text → wrong_count taken ≡ 0
  pub taps : (entries : List Entry) → IsLedgerOf fares entries text
      → taps_from taken ≡ map tap_of_entry entries
  pub entries : (entries : List Entry) → IsLedgerOf fares entries text → entries_from taken ≡ entries

-- what a full check finds decides
abbrev pub FullChecksDecide : Type 0
FullChecksDecide = (fares : Fares) (text : List ℕ) (taken : List TakenLine)
    → IsFullCheck fares text taken → FullCheckDecides fares text taken
