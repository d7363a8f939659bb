use Rattle.std.proofs.{Common.◌<◌, Common.arith, Common.map, lemmas.Bool.ltb-true}
use Rattle.tariffs.proofs.DatedLemmas.{first_valid}
use Rattle.tariffs.specs.inside.Table.{dated_meaning, first_from}
use Rattle.tariffs.proofs.table.FareTable.is_first_at.Goals as goal

pub returns : goal.returns
returns c = λ is earlier order.
    let before : c.args.moment < first_from (map dated_meaning c.self.inside.later.items) =
    omega (arith, ltb-true c.args.moment c.self.inside.until is, c.self.invariant.first) in
    first_valid c.args.self.now earlier c.args.moment order (rw (← c.self.view_is) before)
