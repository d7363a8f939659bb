use Rattle.tool_tasks.proofs.Preparing.{ends}
use Rattle.tool_tasks.proofs.encode_rows.encode_rows_over.Goals as goal

pub returns : goal.returns
returns g c =
    let (is_there, started, tried, is) = c.encode-done.ensures in
    (is_there, started, tried, ends _ _ _ _ _ _ is c.ended.ensures)
