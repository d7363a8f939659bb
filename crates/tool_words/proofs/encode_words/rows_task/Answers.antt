use Rattle.std.proofs.Common.{map, rules}
use Rattle.clap.specs.Words.{found_of, rows_of}
use Rattle.tool_words.proofs.Columns.{rows_are}
use Rattle.tool_words.specs.Tasks.{condition_of, rows_words_of, texts_of}
use Rattle.tool_words.specs.inside.Columns.{names_of}
use Rattle.tool_words.proofs.encode_words.rows_task.Goals as goal

pub returns : goal.returns
returns c =
    rows_are (rows_of (found_of c.args.matches.now)) (texts_of c.in_ok-files.files.items)
    (rows_words_of c.rows_words-words.result) (names_of c.in-Some.columns)
    c.in-Some-separator_in.separator c.in-Some-unit_in.unit c.in-Some-fold_in.fold
    (map condition_of c.in-Some-only.only.items) (map condition_of c.in-Some-without.without.items)
    c.in_ok-files.ensures c.rows_words-words.ensures (search rules) (search rules) (search rules)
    (search rules) (rw c.in-Some-only.is at c.in_ok-only.ensures)
    (rw c.in-Some-without.is at c.in_ok-without.ensures) (search rules)
