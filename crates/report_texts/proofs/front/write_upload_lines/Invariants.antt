use Rattle.std.proofs.Common.{◌≡◌, ◌++◌, string_bytes, take}
use Rattle.report_texts.specs.Report.{upload_lines}
use Rattle.report_texts.proofs.front.write_upload_lines.Given as goal

abbrev pub invariant-loop-upload : goal.invariant-loop-upload
invariant-loop-upload l =
    string_bytes l.text ≡ string_bytes l.fn.text ++ upload_lines 0 (take l.upload l.ends)
