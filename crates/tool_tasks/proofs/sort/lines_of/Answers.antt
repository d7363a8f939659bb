use Rattle.std.proofs.Common.{◌≡◌, ◌<◌, ◌+◌, ◌++◌, [], List, ℕ, arith, get_or, length, take}
use Rattle.report_texts.proofs.Parts.{lines_more}
use Rattle.report_texts.specs.Report.{upload_line, upload_lines}
use Rattle.tap_views.specs.declared.upload_end.UploadEnd.{UploadEnd, TheVariants.Posted}
use Rattle.tool_tasks.proofs.sort.lines_of.Goals as goal

more : (ends : List UploadEnd) (i : ℕ) → i < length ends
    → upload_lines 0 (take i ends) ++ upload_line i (get_or ends i (Posted 0))
    ≡ upload_lines 0 (take (i + 1) ends)
more ends i within = lines_more [] ends i within

pub loop-number-preserved : goal.loop-number-preserved
loop-number-preserved c = grind (arith, more)
