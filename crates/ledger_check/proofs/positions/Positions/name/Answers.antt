use Rattle.std.proofs.Common.{◌<◌, ◌∙◌, ap, length, nat_eq, refl, rules}
use Rattle.ledger_check.proofs.PositionLemmas.{read_written}
use Rattle.ledger_check.specs.Positions.{at_position, named_of, taps_of}
use Rattle.std.proofs.{Math.Seq.map-set_same, lemmas.Option.slice_get_read}
use Rattle.std.specs.Option.{option_and_then}
use Rattle.ledger_check.proofs.positions.Positions.name.Goals as goal

pub returns-clause-taps : goal.returns-clause-taps
returns-clause-taps c =
    map-set_same _ c.args.self.now.uploads.items c.args.upload c.name_in.new.placed
    c.index_mut.result.now
    (c.name_in.ensures.taps ∙ ap (λ v. taps_of v.items) c.index_mut.ensures.value)

pub returns-clause-named : goal.returns-clause-named
returns-clause-named c = λ right upload' position'.
    let all = c.args.self.now.uploads.items in
    let at = c.args.upload in
    let within : at < length all = search rules in
    read_written (λ o. named_of (option_and_then (λ placed. at_position placed.items position') o))
    all at
    upload' c.name_in.new.placed c.index_mut.result.now (nat_eq position' c.args.position) within
    (slice_get_read all (length all) at c.index_mut.result.now refl within
    c.index_mut.ensures.value)
    (c.name_in.ensures.named right position')
