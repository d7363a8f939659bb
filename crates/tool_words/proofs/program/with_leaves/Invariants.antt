use Rattle.std.proofs.Common.{◌≡◌, false, take}
use Rattle.clap.specs.Words.{app_of, with_subcommand}
use Rattle.std.specs.Prelude.{fold}
use Rattle.tool_words.specs.{ToolLine.app_of_name, inside.Rows.shape_of_table}
use Rattle.tool_words.proofs.program.with_leaves.Given as goal

-- the subcommands so far were added
abbrev pub invariant-loop-table : goal.invariant-loop-table
invariant-loop-table l = l.is_whole ≡ false → app_of l.command
    ≡ fold (λ app table. with_subcommand app (shape_of_table table)) app_of_name
    (take l.table-index l.tables)
