use Rattle.histories.specs.Sums.{sums_of}
use Rattle.part_texts.proofs.Kept.{added_one}
use Rattle.part_texts.proofs.fronts.add_validator.Goals as goal

pub returns : goal.returns
returns c =
    added_one c.args.sum.now.validator c.args.validators.now.entries c.insert.new.self.entries
    (sums_of c.kept_of-kept.result) (sums_of c.args.sum.now.totals) c.in-Some.all
    c.kept_of-kept.ensures
    c.in-Some.ensures c.in_ok-insert.ensures.entries
