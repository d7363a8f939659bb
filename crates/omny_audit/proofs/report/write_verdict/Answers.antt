use Rattle.omny_audit.specs.Reports.{report_text}
use Rattle.omny_audit.proofs.report.write_verdict.Goals as goal

pub returns-in-Taps : goal.returns-in-Taps
unfolding report_text
returns-in-Taps c = rw c.in-Taps.is c.write-in-Taps.ensures.bytes
