use Rattle.std.proofs.Common.{◌<◌, arith, sym, ap, ◌∙◌, Some, length, map}
use Rattle.std.proofs.lemmas.List.{length-map}
use Rattle.std.specs.Prelude.{slice_get}
use Rattle.tariffs.proofs.DatedLemmas.{got}
use Rattle.tariffs.specs.{Fares.Fares, inside.Table.dated_meaning}
use Rattle.tariffs.proofs.table.FareTable.later.Goals as goal

pub returns : goal.returns
returns c =
    let items = c.self.inside.later.items in
    let item = c.index-dated.result.now in
    let within : c.args.position < length (map dated_meaning items) =
    rw (← c.self.view_is) at c.requires in
    let below : c.args.position < length items =
    omega (arith, within, length-map items dated_meaning) in
    ap (λ (fares : Fares). slice_get fares.later c.args.position) (sym c.self.view_is)
    ∙ got items c.args.position item below c.index-dated.ensures
    ∙ ap (λ t. Some (item.from, t.meaning)) (sym c.deref.ensures)
