use Rattle.std.proofs.Common.{ℕ, List, ◌++◌, ap}
use Rattle.std.proofs.lemmas.List.{nil_from_length}
use Rattle.class_names.specs.Names.{class_by}
use Rattle.settled_bills.proofs.TracedLines.{none_left}
use Rattle.settled_bills.proofs.columns.put_next.Goals as goal

pub returns-in-None : goal.returns-in-None
returns-in-None c = λ rest.
    ap (λ (t : List ℕ). c.args.text.now.items ++ t)
    (none_left (class_by c.args.names.now) rest c.args.taps.now
    (nil_from_length c.args.taps.now c.in-None.ensures.cases))
