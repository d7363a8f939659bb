use Rattle.clap.specs.Words.{app_of}
use Rattle.tool_words.proofs.Rows.{row_more}
use Rattle.tool_words.proofs.arguments.Subcommand.command.Goals as goal

pub loop-row-preserved : goal.loop-row-preserved
loop-row-preserved c = λ plain.
    row_more c.args.self.now.name.now c.args.self.now.rows.now c.loop-row.row-index _
    (app_of c.loop-row.command) _ c.loop-row-test.true (c.in_ok-command.ensures plain)
    (c.loop-row.invariant plain)
