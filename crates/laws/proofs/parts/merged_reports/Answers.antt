use Rattle.std.proofs.Common.{◌∷◌}
use Rattle.laws.proofs.PartReports.{reports_of_parts}
use Rattle.laws.proofs.parts.merged_reports.Goals as goal

pub returns : goal.returns
returns c = λ fares files part parts are whole increase bounds can.
    let (text, merges, report) =
    reports_of_parts c.reports_are_merged.ensures fares files part parts are
    whole increase bounds can
    (c.joined_parts_are_settled.ensures.ended fares files (part ∷ parts) are whole) in (
      text,
      merges,
      c.joined_parts_are_settled.ensures.settled fares files (part ∷ parts) are whole
          increase,
      report,
    )
