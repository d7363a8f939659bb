use Rattle.std.proofs.Common.{◌<◌, ap, length, rules}
use Rattle.std.proofs.Math.Seq.{map-set_same}
use Rattle.ledger_check.specs.declared.positions.PlacedTap.{PlacedTap}
use Rattle.ledger_check.proofs.PositionLemmas.{named_written}
use Rattle.ledger_check.proofs.positions.name_in.Goals as goal

pub returns-clause-taps : goal.returns-clause-taps
returns-clause-taps c =
    map-set_same (λ (p : PlacedTap). p.tap) c.args.placed.now.items c.in-Some.at _
    c.index.result.now
    (ap (λ (p : PlacedTap). p.tap) c.index.ensures)

pub returns-clause-named : goal.returns-clause-named
returns-clause-named c = λ _ other.
    let within : c.in-Some.at < length c.args.placed.now.items = search rules in
    named_written c.args.placed.now.items c.args.position c.in-Some.at c.index.result.now
    c.in-Some.ensures.0 within c.index.ensures other
