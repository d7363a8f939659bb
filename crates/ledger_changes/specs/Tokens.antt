-- The corrections of each token, summed, and their text: CSV, a line for each token.
use Rattle.ledger_changes.specs.Changes.{Pair, changes_between}
use Rattle.ledger_changes.specs.{Ledgers.rows_of, Rows.is_same_text, Rows.text_cmp}
use Rattle.ledger_changes.specs.Texts.{cents_of, correction_line, corrections_head, difference}
use Rattle.ledger_changes.specs.Texts.{is_only_before, is_removed, removed_in}
use Rattle.ledger_changes.specs.declared.fault.WrongLine.{WrongLine}
use Rattle.ledger_fields.specs.Rows.{Charge, Row}
use Rattle.std.specs.{Fmt.decimal, List.AllByRecursion, List.Sorted.IsStrictlySortedBy}
use Rattle.std.specs.Prelude.{◌≡◌, ◌+◌, ℕ, Bool, true, false, List, [], ◌∷◌, ◌++◌, Contains, codes}
use Rattle.std.specs.Prelude.{Result, Ok, Err, if◌then◌else◌, option_map, Option, None, Some}
use Rattle.std.specs.Prelude.{filter, flat_map, length, sum_by}

-- the correction is one of the token
abbrev pub is_of_token : List ℕ → Pair → Bool
is_of_token token change = is_same_text token change.key.token

-- the corrections of the token
abbrev pub of_token : List ℕ → List Pair → List Pair
of_token token changes = filter (is_of_token token) changes

-- only the new bill has the line
abbrev pub is_added : Pair → Bool
is_added change = is_only_before change.after change.before

-- both bills have the line
abbrev pub is_in_both : Option Charge → Option Charge → Bool
is_in_both None after = false
is_in_both (Some before) None = false
is_in_both (Some before) (Some after) = true

abbrev pub is_kept : Pair → Bool
is_kept change = is_in_both change.before change.after

-- how many lines are added, removed and changed, and what cents they have in the old and the new
-- bill
pub record Sums : Type 0 where
  pub added : ℕ
  pub removed : ℕ
  pub changed : ℕ
  pub before : ℕ
  pub after : ℕ

-- the sums of corrections
abbrev pub sums_of : List Pair → Sums
sums_of changes = record {
  added = length (filter is_added changes);
  removed = length (filter is_removed changes);
  changed = length (filter is_kept changes);
  before = sum_by (λ change. cents_of change.before) changes;
  after = sum_by (λ change. cents_of change.after) changes;
}

-- the header line
abbrev pub tokens_head : List ℕ
tokens_head = codes "token,added,removed,changed,cents_before,cents_after,cents_change\n"

-- `000000000000000000000000000000a1,2,0,1,290,290,0`
unfoldable pub token_line : List ℕ → Sums → List ℕ
token_line token sums =
    token ++ (codes "," ++ (decimal sums.added ++ (codes "," ++ (decimal sums.removed
    ++ (codes "," ++ (decimal sums.changed ++ (codes "," ++ (decimal sums.before
    ++ (codes "," ++ (decimal sums.after
    ++ (codes "," ++ (difference sums.before sums.after ++ codes "\n"))))))))))))

-- ---- the sums of each token, while its corrections come
-- a token, and the sums of its corrections so far
pub record TokenSum : Type 0 where
  pub token : List ℕ
  pub sums : Sums

-- the sums of the one and the other corrections
abbrev pub add_sums : Sums → Sums → Sums
add_sums a b = record {
  added = a.added + b.added;
  removed = a.removed + b.removed;
  changed = a.changed + b.changed;
  before = a.before + b.before;
  after = a.after + b.after;
}

-- the token, before a correction of it has come
abbrev pub no_sums : List ℕ → TokenSum
no_sums token = record { token = token; sums = sums_of [] }

-- the open sums, if they are the token's; else they begin again
abbrev pub sums_for : Option TokenSum → List ℕ → TokenSum
sums_for None token = no_sums token
sums_for (Some last) token = if is_same_text last.token token then last else no_sums token

-- the line of the open sums, if they are not the token's
abbrev pub ended_line : Option TokenSum → List ℕ → List ℕ
ended_line None token = []
ended_line (Some last) token =
    if is_same_text last.token token then [] else token_line last.token last.sums

-- the line of the sums, if there are some
abbrev pub sums_line : Option TokenSum → List ℕ
sums_line None = []
sums_line (Some last) = token_line last.token last.sums

-- these corrections are added
abbrev pub add_changes : TokenSum → List Pair → TokenSum
add_changes last changes =
    record { token = last.token; sums = add_sums last.sums (sums_of changes) }

-- ---- the text, by token or by line
-- what a correction writes: its line, or, by token, the line of the sums that it ends
abbrev pub change_lines : Bool → Option TokenSum → Pair → List ℕ
change_lines false last change = correction_line change
change_lines true last change = ended_line last change.key.token

-- the sums that are open after it
abbrev pub sums_with : Bool → Option TokenSum → Pair → Option TokenSum
sums_with false last change = last
sums_with true last change = Some (add_changes (sums_for last change.key.token) (change ∷ []))

-- the same of corrections
abbrev pub lines_of_changes : Bool → Option TokenSum → List Pair → List ℕ
lines_of_changes by_token last [] = []
lines_of_changes by_token last (change ∷ changes) =
    change_lines by_token last change ++ lines_of_changes by_token (sums_with by_token last change) changes

abbrev pub last_sums : Bool → Option TokenSum → List Pair → Option TokenSum
last_sums by_token last [] = last
last_sums by_token last (change ∷ changes) = last_sums by_token (sums_with by_token last change) changes

-- the lines of all corrections
abbrev pub all_lines : Bool → List Pair → List ℕ
all_lines by_token changes =
    lines_of_changes by_token None changes ++ sums_line (last_sums by_token None changes)

-- the header line
abbrev pub head_of : Bool → List ℕ
head_of false = corrections_head
head_of true = tokens_head

-- the text of these corrections, and how many lines are removed
abbrev pub text_of : Bool → List Pair → List ℕ × ℕ
text_of by_token changes = (head_of by_token ++ all_lines by_token changes, removed_in changes)

abbrev pub changes_of_both : Result (List Row) (ℕ × WrongLine) → Result (List Row) (ℕ × WrongLine) → Option (List Pair)
changes_of_both (Ok old) (Ok new) = Some (changes_between old new)
changes_of_both (Ok old) (Err wrong) = None
changes_of_both (Err wrong) new = None

-- THE corrections from the one ledger to the other: their text, and how many lines are removed; none
-- if a text is no settled ledger
abbrev pub corrections_of : Bool → List ℕ → List ℕ → Option (List ℕ × ℕ)
corrections_of by_token old new =
    option_map (text_of by_token) (changes_of_both (rows_of old) (rows_of new))

-- ---- what the sums of tokens say
-- these are the tokens that have a correction: each once, increasing
pub record AreTokensOf (changes : List Pair) (tokens : List (List ℕ)) : Type 0 where
  pub increasing : IsStrictlySortedBy text_cmp tokens
  pub some : AllByRecursion (λ token. ¬ (of_token token changes ≡ [])) tokens
  pub all : AllByRecursion (λ change. Contains tokens change.key.token) changes

-- a line for each of these tokens, with the sums of its corrections
abbrev pub tokens_lines : List Pair → List (List ℕ) → List ℕ
tokens_lines changes tokens =
    flat_map (λ token. token_line token (sums_of (of_token token changes))) tokens

-- the text has a line for each token that has a correction
pub record HasTokens (changes : List Pair) (text : List ℕ) : Type 0 where
  pub tokens : List (List ℕ)
  pub are : AreTokensOf changes tokens
  pub shown : text ≡ tokens_lines changes tokens

-- the tokens' sums add up: what the old bill charges and what the tokens' lines cost after is what
-- the new bill charges and what they cost before
abbrev pub TokensAddUp : List Row → List Row → List Pair → List (List ℕ) → Type 0
TokensAddUp old new changes tokens =
    sum_by (λ row. row.charge.cents) old
    + sum_by (λ token. (sums_of (of_token token changes)).after) tokens
    ≡ sum_by (λ row. row.charge.cents) new
    + sum_by (λ token. (sums_of (of_token token changes)).before) tokens
