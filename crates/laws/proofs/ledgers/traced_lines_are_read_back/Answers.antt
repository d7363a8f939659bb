use Rattle.laws.specs.Traced.{line_of}
use Rattle.laws.proofs.TracedLines.{line_written}
use Rattle.laws.proofs.ledgers.traced_lines_are_read_back.Goals as goal

pub returns : goal.returns
returns c = λ fields class text traced columns lacks can. (
  line_written fields class text traced columns lacks,
  c.columns_are_read_back.ensures (line_of fields class traced) can,
)
