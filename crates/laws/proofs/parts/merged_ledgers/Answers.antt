use Rattle.std.proofs.Common.{◌∷◌}
use Rattle.laws.proofs.PartReports.{ledgers_of_parts}
use Rattle.laws.proofs.parts.merged_ledgers.Goals as goal

pub returns : goal.returns
returns c = record {
  whole = λ fares files part parts have are whole increase texts each text is. (
    c.joined_parts_are_settled.ensures.settled fares files (part ∷ parts) are whole increase,
    ledgers_of_parts c.ledgers_are_merged.ensures.whole fares files part parts have are whole increase
        texts
        each text is,
  );
}
