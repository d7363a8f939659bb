use Rattle.std.proofs.Common.{[], inl, refl, arith}
use Rattle.ledger_check.proofs.lines_fed.LinesFed.new.Goals as goal

pub returns : goal.returns
returns c = λ fares. record {
  lines = record {
    are = tt;
    sums = c.new-2.ensures;
    run = [];
    is_run = refl;
    few = omega arith;
    explainer = c.new.ensures fares;
    entries = c.open_sums.ensures;
  };
  started = [];
  kept = inl c.new-3.ensures.items;
  lacks = tt;
  split = λ more. refl;
}
