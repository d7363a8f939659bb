use Rattle.std.proofs.Common.{◌≡◌, ◌-◌, length}
use Rattle.ledger_check.specs.Lines.{lines_of}
use Rattle.report_check.specs.Uploads.{ends_from, uploads_in}
use Rattle.report_check.proofs.uploads.upload_lines.Given as goal

-- the lines of the first uploads were read
abbrev pub invariant-loop-upload : goal.invariant-loop-upload
invariant-loop-upload l = record {
  same : uploads_in (lines_of l.text)
      ≡ ends_from (l.uploads - l.upload) l.ends.items (lines_of l.rest);
  counted : length l.ends.items ≡ l.upload;
}
