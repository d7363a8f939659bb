use Rattle.clap.specs.Words.{app_of}
use Rattle.tool_words.proofs.Rows.{table_more}
use Rattle.tool_words.proofs.program.with_leaves.Goals as goal

pub loop-table-preserved : goal.loop-table-preserved
loop-table-preserved c = λ plain.
    table_more c.args.tables.now c.loop-table.table-index _ _ (app_of c.loop-table.command) _
    c.loop-table-test.true (c.in_ok-command.ensures plain) (c.loop-table.invariant plain)
