use Rattle.std.proofs.Common.{rules, tests}
use Rattle.std.proofs.lemmas.Iterator.{YieldsList-from_slice, Search.all_from_yields_List}
use Rattle.tap_rows.specs.Numbers.{is_zero}
use Rattle.tap_rows.proofs.agency.numbers.are_zeros.Goals as goal

pub returns : goal.returns
returns c =
    all_from_yields_List is_zero _ _ _ c.all.ensures.ran (YieldsList-from_slice c.args.text.now cc)
    (λ x b q k. search (rules, tests))
