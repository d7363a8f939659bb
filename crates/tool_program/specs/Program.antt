-- The whole program: how what is asked for ends.
use Rattle.frame.specs.Outcome.{Ends}
use Rattle.program_manners.specs.{Answers.IsPrinted, Answers.IsRejected, Words.AsksForText}
use Rattle.std.specs.Prelude.{◌≡◌, ◌⊎◌, ⊤, ℕ, MatchBool, List, Option, map}
use Rattle.tool_tasks.specs.{Corrections.corrections_stream, Decode.decode_rule, Encode.encode_rule}
use Rattle.tool_tasks.specs.{EncodeRows.EndsRows, Merge.merge_stream, MergeSorted.merge_sorted_rule}
use Rattle.tool_tasks.specs.{Sort.sort_rule, Streams.EndsBy, ValidPrefix.valid_prefix_rule}
use Rattle.tool_words.specs.Request.{Request, corrections, decode, encode, encode_rows, merge}
use Rattle.tool_words.specs.Request.{misused, request_by, shows, sort, valid_prefix}
use Rattle.tool_words.specs.{Tasks.rows_words_of, ToolLine.Parses, ToolLine.program}
use Rattle.tool_words.specs.declared.task.RowsWords.{RowsWords}
use Rattle.world.specs.{Run.Calls, Run.Run, Writes.IsSaid}

-- THE rule of the program: what is asked for ends so. Files that are read in pieces are read by these
-- calls, which follow those before, and `placed` is what is known of files that are read at any
-- offset. Nothing is said of what only informs.
abbrev pub IsFramed : (before after : List Calls) → (placed : List ℕ → Option (List ℕ)) → Request
    → Run → Run → ℕ → Type 0
IsFramed before after placed (corrections ledgers) old new status =
    EndsBy (corrections_stream ledgers) before after old new status
IsFramed before after placed (merge parts) old new status =
    EndsBy (merge_stream parts) before after old new status
IsFramed before after placed (encode word) old new status = Ends (encode_rule word) old new status
IsFramed before after placed (encode_rows csvs request) old new status = (words : RowsWords)
    × (rows_words_of words ≡ request) × EndsRows words csvs old new status
IsFramed before after placed (decode words) old new status = Ends (decode_rule words) old new status
IsFramed before after placed (valid_prefix request) old new status =
    Ends (valid_prefix_rule request) old new status
IsFramed before after placed (sort request) old new status = MatchBool request.is_merge
    (Ends (merge_sorted_rule request (map placed request.uploads)) old new status)
    (Ends (sort_rule request) old new status)
IsFramed before after placed misused old new status =
    (after ≡ before) × IsRejected old new status
IsFramed before after placed shows old new status = ⊤

-- THE outcome of a run of these words: what they ask for ends as it says. Only running out of memory,
-- while the words are read, may come before it. Words that are no command line have status 2, and
-- nothing is read or written, unless they ask for help or the version, which is printed with status 0.
pub record EndsTools (words : List (List ℕ)) (before after : List Calls)
    (placed : List ℕ → Option (List ℕ)) (old new : Run) (status : ℕ) : Type 0 where
  pub command : Parses words → IsFramed before after placed (request_by words) old new status
      ⊎ ((status ≡ 1) × IsSaid old new)
  pub helped : ¬ Parses words → status ≡ 0 → AsksForText program words × IsPrinted old new
  pub refused : ¬ Parses words → (¬ AsksForText program words)
      → IsRejected old new status × (after ≡ before)
