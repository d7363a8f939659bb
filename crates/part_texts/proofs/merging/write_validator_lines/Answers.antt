use Rattle.std.proofs.Common.{◌≡◌, ap, map, rules, ◌∙◌, ◌++◌}
use Rattle.fare_texts.specs.ReportLines.{validator_line}
use Rattle.histories.specs.Sums.{sums_of}
use Rattle.part_texts.proofs.WholeTexts.{line_written}
use Rattle.part_texts.specs.inside.Fronts.{shown_sums}
use Rattle.std.proofs.lemmas.Map.Iter.{iter_end}
use Rattle.std.specs.{Map.Iter.deref_pair, Prelude.flat_map, String.string_bytes}
use Rattle.part_texts.proofs.merging.write_validator_lines.Goals as goal

pub loop-validator-preserved : goal.loop-validator-preserved
loop-validator-preserved c =
    line_written (string_bytes c.args.text.now) (string_bytes c.loop-validator.text)
    (string_bytes c.write_validator.new.text)
    c.loop-validator.yielded c.in-Some.validator c.in-Some.totals c.loop-validator.invariant
    c.in_ok-write_validator.ensures

pub returns : goal.returns
returns c =
    let all : map deref_pair c.loop-validator.yielded ≡ c.args.validators.now.entries =
    search (rules, iter_end) in
    c.loop-validator.invariant ∙ ap (λ entries. string_bytes c.args.text.now ++ flat_map
    validator_line (shown_sums sums_of entries)) all
