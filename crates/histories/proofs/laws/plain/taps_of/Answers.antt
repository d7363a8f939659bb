use Rattle.std.proofs.{Common.◌<◌, Common.arith, lemmas.List.Elements.All-from_get_or}
use Rattle.tap_views.proofs.ParseLemmas.{valid_taps}
use Rattle.tap_views.specs.Files.{taps_of_batches}
use Rattle.histories.proofs.laws.plain.taps_of.Goals as goal

pub returns-clause-taps : goal.returns-clause-taps
returns-clause-taps c =
    let valid = c.valid_batches in
    (taps_of_batches valid.result.batches, valid_taps _ _ _ valid.ensures)

pub returns-clause-bytes : goal.returns-clause-bytes
returns-clause-bytes c =
    All-from_get_or (λ byte. byte < 256) c.args.file.now 0
    (λ i within. let byte = c.type_inv.file i in omega arith)
