use Rattle.std.proofs.Common.{rules, ◌+◌, ap, ◌∙◌}
use Rattle.histories.proofs.TallyLemmas.{tallied}
use Rattle.histories.specs.Tally.{sums_of_positions}
use Rattle.std.specs.Prelude.{slice_index, slice_set}
use Rattle.histories.proofs.sums.counts.Counts.add.Goals as goal

pub returns-clause-added : goal.returns-clause-added
returns-clause-added c = λ _.
    let counts = c.args.self.now.counts in
    ap (λ at. sums_of_positions (slice_set counts at (slice_index counts at + 1))
    (c.args.self.now.cents + c.args.reply.cents)) c.position_of-position.ensures.position
    ∙ tallied counts c.args.self.now.cents c.args.reply (search rules)
