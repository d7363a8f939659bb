use Rattle.std.proofs.Common.{codes}
use Rattle.std.specs.Fmt.{decimal}
use Rattle.fare_texts.specs.Counts.{first_counts}
use Rattle.report_texts.proofs.Parts.{four_counts}
use Rattle.report_texts.proofs.token_lines.put_live_counts.Goals as goal

pub returns-clause-put : goal.returns-clause-put
unfolding first_counts
returns-clause-put c =
    let t = c.args.totals.now in
    four_counts c.args.line.now _ _ _ _ (codes "taps ") (decimal t.taps) (codes " paid ")
    (decimal t.paid)
    (codes " transfers ") (decimal t.transfers) (codes " capped ") (decimal t.capped)
    c.put_count.ensures.put c.put_count-2.ensures.put c.put_count-3.ensures.put
    c.put_count-4.ensures.put
