use Rattle.std.proofs.Common.{codes, length, string_bytes}
use Rattle.std.proofs.lemmas.Result.{on_ok_weaker}
use Rattle.fare_texts.specs.ReportLines.{number_line}
use Rattle.fare_texts.proofs.Parts.{in_parts}
use Rattle.report_texts.specs.Report.{upload_lines}
use Rattle.report_texts.proofs.front.write_uploads.Goals as goal

pub returns : goal.returns
returns c =
    on_ok_weaker c.write_upload_lines.result
    (in_parts (string_bytes c.args.text.now) (string_bytes c.write_section_head.new.text)
    (string_bytes c.write_upload_lines.new.text)
    (number_line (codes "uploads ") (length c.args.ends.now)) (upload_lines 0 c.args.ends.now)
    c.in_ok-write_section_head.ensures)
    c.write_upload_lines.ensures
