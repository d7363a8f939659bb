use Rattle.std.proofs.Common.{rules, ◌+◌, ap, ◌∙◌}
use Rattle.histories.proofs.TallyLemmas.{tallied}
use Rattle.histories.specs.{Positions.count_position, Tally.sums_of_positions}
use Rattle.std.specs.Prelude.{slice_index, slice_set}
use Rattle.histories.proofs.sums.tally.Tally.add.Goals as goal

pub returns : goal.returns
returns c =
    let counts = c.args.self.now.counts in
    let here = count_position c.args.reply.answer in
    ap (λ at. sums_of_positions (slice_set counts at (slice_index counts at + 1))
    (c.args.self.now.cents + c.from.result)) c.position_of.ensures.position
    ∙ ap (λ more. sums_of_positions (slice_set counts here (slice_index counts here + 1))
    (c.args.self.now.cents + more)) c.from.ensures
    ∙ tallied counts c.args.self.now.cents c.args.reply (search rules)
