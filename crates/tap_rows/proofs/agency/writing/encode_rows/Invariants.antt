use Rattle.tap_rows.specs.inside.Goings.{IsGoing}
use Rattle.tap_rows.proofs.agency.writing.encode_rows.Given as goal

abbrev pub invariant-loop-count : goal.invariant-loop-count
invariant-loop-count l =
    IsGoing l.fn.choice l.positions l.fn.text l.count l.reader l.growing l.refused.items l.summary
