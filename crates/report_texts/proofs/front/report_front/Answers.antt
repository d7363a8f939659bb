use Rattle.std.proofs.Common.{ℕ, ◌++◌, codes, length, map, ap, ◌∙◌, string_bytes}
use Rattle.fare_texts.specs.{Counts.totals_line, ReportLines.number_line, ReportLines.token_line}
use Rattle.histories.specs.{Shown.validator_sum, Sums.sums_of}
use Rattle.report_texts.proofs.Parts.{before_lines}
use Rattle.report_texts.specs.Report.{uploads_section, validators_section}
use Rattle.std.specs.List.{flat_map}
use Rattle.report_texts.proofs.front.report_front.Goals as goal

pub returns : goal.returns
returns c =
    before_lines (string_bytes c.new-text.result) (string_bytes c.write_uploads.new.text)
    (string_bytes c.write_totals.new.text) (string_bytes c.write_validators.new.text)
    c.into_bytes.result.items (uploads_section c.args.ends.now)
    (totals_line (sums_of c.args.totals.now))
    (validators_section (map validator_sum c.args.validators.now))
    (number_line (codes "tokens ") (length c.args.tokens.now))
    (flat_map token_line c.args.tokens.now) c.new-text.ensures.bytes
    c.in_ok-write_uploads.ensures c.in_ok-write_totals.ensures c.in_ok-write_validators.ensures
    (ap (λ v. v.items) c.into_bytes.ensures.value ∙ c.in_ok-write_section_head.ensures
    ∙ ap (λ (count : ℕ). string_bytes c.write_validators.new.text ++ number_line (codes "tokens ")
    count) c.len.ensures)
