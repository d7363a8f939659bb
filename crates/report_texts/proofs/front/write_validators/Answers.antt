use Rattle.std.proofs.Common.{◌∙◌, ◌++◌, ℕ, ap, sym, codes, length, map, string_bytes}
use Rattle.fare_texts.proofs.Parts.{in_parts}
use Rattle.fare_texts.specs.ReportLines.{number_line, validator_line}
use Rattle.histories.specs.Shown.{validator_sum}
use Rattle.std.proofs.lemmas.{List.length-map, Result.on_ok_weaker}
use Rattle.std.specs.List.{flat_map}
use Rattle.report_texts.proofs.front.write_validators.Goals as goal

pub returns : goal.returns
returns c =
    let text = string_bytes c.args.text.now in
    let list = map validator_sum c.args.sums.now in
    on_ok_weaker c.write_validator_lines.result
    (in_parts text (string_bytes c.write_section_head.new.text)
    (string_bytes c.write_validator_lines.new.text)
    (number_line (codes "validators ") (length list)) (flat_map validator_line list)
    (c.in_ok-write_section_head.ensures
    ∙ ap (λ (count : ℕ). text ++ number_line (codes "validators ") count)
    (sym (length-map c.args.sums.now validator_sum))))
    c.write_validator_lines.ensures
