use Rattle.std.proofs.{Common.◌≡◌, Common.sym, Common.◌∙◌, Common.map, lemmas.Bool.eqb-true}
use Rattle.tariffs.proofs.DatedLemmas.{valid-same}
use Rattle.tariffs.specs.inside.Table.{started, dated_meaning}
use Rattle.tariffs.proofs.table.FareTable.none_between.Goals as goal

pub returns : goal.returns
returns c =
    let later = map dated_meaning c.self.inside.later.items in
    let one : c.started.result ≡ started c.args.earlier later =
    rw c.deref.ensures.value at c.started.ensures.count in
    let two : c.started-2.result ≡ started c.args.moment later =
    rw c.deref-2.ensures.value at c.started-2.ensures.count in
    λ same. valid-same c.args.self.now c.args.earlier c.args.moment
    (rw (← c.self.view_is) (sym one ∙ eqb-true c.started.result c.started-2.result same ∙ two))
