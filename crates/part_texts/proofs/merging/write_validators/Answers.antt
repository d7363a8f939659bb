use Rattle.std.proofs.Common.{◌≡◌, append_assoc, codes, length, rules, string_bytes}
use Rattle.std.proofs.lemmas.List.{length-map}
use Rattle.fare_texts.specs.ReportLines.{number_line}
use Rattle.part_texts.proofs.merging.write_validators.Goals as goal

pub returns : goal.returns
returns c =
    let number : c.len.result ≡ length c.args.validators.now.entries = search rules in
    rw (
      c.in_ok-write_validator_lines.ensures,
      c.in_ok-write_section_head.ensures,
      length-map c.args.validators.now.entries _,
      ← number,
    )
    (append_assoc (string_bytes c.args.text.now) (number_line (codes "validators ") c.len.result) _)
