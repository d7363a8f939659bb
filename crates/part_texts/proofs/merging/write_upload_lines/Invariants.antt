use Rattle.std.proofs.Common.{◌≡◌, ◌++◌, map, string_bytes, take}
use Rattle.report_texts.specs.Report.{upload_lines}
use Rattle.tap_views.specs.declared.upload_end.UploadEnd.TheVariants.{Posted}
use Rattle.part_texts.proofs.merging.write_upload_lines.Given as goal

abbrev pub invariant-loop-upload : goal.invariant-loop-upload
invariant-loop-upload l = string_bytes l.text
    ≡ string_bytes l.fn.text ++ upload_lines 0 (map Posted (take l.upload l.taps))
