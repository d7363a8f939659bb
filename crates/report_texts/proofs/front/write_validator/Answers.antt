use Rattle.std.proofs.Common.{string_bytes, codes}
use Rattle.std.proofs.lemmas.Result.{on_ok_weaker}
use Rattle.std.specs.Fmt.{decimal}
use Rattle.histories.specs.Sums.{sums_of}
use Rattle.fare_texts.specs.Counts.{counts_text}
use Rattle.report_texts.proofs.Parts.{in_line}
use Rattle.report_texts.proofs.front.write_validator.Goals as goal

pub returns : goal.returns
returns c =
    on_ok_weaker c.write_counts.result
    (in_line (string_bytes c.args.text.now) (string_bytes c.write_validator_name.new.text)
    (string_bytes c.write_counts.new.text) (codes "validator ")
    (decimal c.args.sum.now.validator) (counts_text (sums_of c.args.sum.now.totals))
    c.in_ok-write_validator_name.ensures)
    c.write_counts.ensures
