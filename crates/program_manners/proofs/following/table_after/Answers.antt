-- A text that is no table follows no others.
use Rattle.program_manners.proofs.TablesRefused.{no_table}
use Rattle.program_manners.proofs.following.table_after.Goals as goal

pub returns-in-Err-clause-fault : goal.returns-in-Err-clause-fault
returns-in-Err-clause-fault c = λ some all follows.
    no_table c.args.text.now c.in-Err.fault (c.in-Err.ensures.fault some) follows.next
    follows.utf8 follows.means
